use Rattle.std.proofs.Common.{◌≡◌, List, ℕ, true, sym, ap, ◌∙◌}
use Rattle.std.specs.Str.{chars, IsUtf8}
use Rattle.std.proofs.lemmas.Slice.Eq.{bytes_eq-Decides}
use Rattle.std.proofs.lemmas.Str.{encodes-chars}
use Rattle.qz_expand.proofs.whole.is_named.Goals as goal

-- a text is told by its characters
same_chars : (text other : List ℕ) → IsUtf8 text → IsUtf8 other → chars text ≡ chars other → text ≡ other
same_chars text other utf8 utf8_other e = sym (encodes-chars text utf8) ∙ rw e (encodes-chars other utf8_other)

pub returns : goal.returns
returns c =
    let decides = bytes_eq-Decides c.as_str.result.now c.args.text.now in (
      λ (same : c.eq.result ≡ true). sym c.as_str.ensures.text ∙ ap chars (decides.0 (sym c.eq.ensures ∙ same)),
      λ (named : c.args.name.now ≡ chars c.args.text.now).
          c.eq.ensures ∙ decides.1 (same_chars c.as_str.result.now c.args.text.now c.as_str.utf8 c.utf8.text (c.as_str.ensures.text ∙ named)),
    )
