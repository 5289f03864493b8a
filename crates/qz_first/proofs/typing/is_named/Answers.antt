use Rattle.std.proofs.Common.{◌≡◌, true, sym, ap, ◌∙◌}
use Rattle.std.specs.Str.{chars}
use Rattle.std.proofs.lemmas.Slice.Eq.{bytes_eq-Decides}
use Rattle.qz_first.proofs.ReadingLemmas.{same_chars}
use Rattle.qz_first.proofs.typing.is_named.Goals as goal

pub returns : goal.returns
returns c =
    let decides = bytes_eq-Decides c.as_str.result.now c.args.text.now in (
      λ (same : c.eq.result ≡ true). sym c.as_str.ensures.text ∙ ap chars (decides.0 (sym c.eq.ensures ∙ same)),
      λ (named : c.args.name.now ≡ chars c.args.text.now).
          c.eq.ensures ∙ decides.1 (same_chars c.as_str.result.now c.args.text.now c.as_str.utf8 c.utf8.text (c.as_str.ensures.text ∙ named)),
    )
