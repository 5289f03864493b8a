use Rattle.std.proofs.Common.{◌≡◌, sym, ap, ◌∙◌, encode_utf8_all}
use Rattle.std.proofs.lemmas.Str.{encodes-chars}
use Rattle.qz_printer.proofs.words.name.Goals as goal

pub returns : goal.returns
returns c =
    let spelled : c.as_str.result.now ≡ encode_utf8_all c.args.name.now =
    sym (encodes-chars c.as_str.result.now c.as_str.utf8) ∙ ap encode_utf8_all c.as_str.ensures.text in
    rw (← spelled) c.word.ensures
