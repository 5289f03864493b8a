use Rattle.std.proofs.Common.{◌≡◌, sym, ap, ◌∙◌, encode_utf8_all}
use Rattle.std.specs.Str.{chars}
use Rattle.std.proofs.lemmas.Str.{encodes-chars}
use Rattle.qz_syntax.proofs.names.NameHash.hash.Goals as goal

pub returns : goal.returns
returns g c =
    let text = c.as_str.result.now in
    let e : c.args.self.now ≡ chars text = sym c.self.view_is ∙ ap chars (sym c.as_str.ensures.value) in
    let f : encode_utf8_all c.args.self.now ≡ text = ap encode_utf8_all e ∙ encodes-chars text c.as_str.utf8 in
    rw f c.hash.ensures
