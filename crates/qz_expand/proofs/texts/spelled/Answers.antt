use Rattle.std.proofs.Common.{encode_utf8_all, sym, ap, ◌∙◌}
use Rattle.std.proofs.lemmas.Str.{encodes-chars}
use Rattle.qz_expand.proofs.texts.spelled.Goals as goal

pub returns : goal.returns
returns c = sym (ap encode_utf8_all (sym c.as_str.ensures.text) ∙ encodes-chars c.as_str.result.now c.as_str.utf8)
