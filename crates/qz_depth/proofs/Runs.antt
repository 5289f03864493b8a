-- What a list of deeds shows, put together.
use Rattle.std.proofs.Common.{◌≡◌, List, [], ◌∷◌, ◌++◌, refl, sym, ap, append_assoc, ◌∙◌}
use Rattle.qz_values.specs.declared.Know.{Know}
use Rattle.qz_meaning.specs.Accounts.{Write}
use Rattle.qz_meaning.specs.Landings.{Deed, Wrote, Starts, Resumes}
use Rattle.qz_control.specs.Guarded.{Deeds}
use Rattle.qz_control.specs.Shown.{with_shown, shown}

with_shown-append : (live : Know) (deed : Deed) (xs ys : List Write) → with_shown live deed (xs ++ ys) ≡ with_shown live deed xs ++ ys
with_shown-append live (Wrote w) xs ys = refl
with_shown-append live (Starts call g m) xs ys = refl
with_shown-append live (Resumes call g) xs ys = refl

shown-append : (xs ys : Deeds) → shown (xs ++ ys) ≡ shown xs ++ shown ys
shown-append [] ys = refl
shown-append (x ∷ xs) ys = ap (with_shown x.0 x.1) (shown-append xs ys) ∙ with_shown-append x.0 x.1 (shown xs) (shown ys)

-- what is appended twice
pub shown_joined : (before : List Write) (xs ys : Deeds) → (before ++ shown xs) ++ shown ys ≡ before ++ shown (xs ++ ys)
shown_joined before xs ys = append_assoc before (shown xs) (shown ys) ∙ ap (λ more. before ++ more) (sym (shown-append xs ys))
