use Rattle.std.proofs.Common.{◌≡◌, true, sym, ap, ◌∙◌}
use Rattle.std.specs.Prelude.{encode_utf8_all}
use Rattle.std.proofs.lemmas.Slice.Eq.{bytes_eq-Decides}
use Rattle.std.proofs.lemmas.Str.{encodes-chars}
use Rattle.qz_driver.proofs.simulate.has_name.Goals as goal

pub returns : goal.returns
returns c =
    let decides = bytes_eq-Decides c.as_str.result.now c.args.name.now in
    let text : encode_utf8_all c.args.circuit.now.name ≡ c.as_str.result.now =
    ap encode_utf8_all (sym c.as_str.ensures.text) ∙ encodes-chars c.as_str.result.now c.as_str.utf8 in (
      λ (same : c.eq.result ≡ true). text ∙ decides.0 (sym c.eq.ensures ∙ same),
      λ (named : encode_utf8_all c.args.circuit.now.name ≡ c.args.name.now). c.eq.ensures ∙ decides.1 (sym text ∙ named),
    )
