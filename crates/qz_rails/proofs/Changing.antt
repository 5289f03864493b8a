-- Where rails say different things.
use Rattle.std.proofs.Common.{◌≡◌, ◌↔◌, Bool, true, false, not, ◌&&◌, ◌||◌, List, length, refl, sym, ap, ◌∙◌}
use Rattle.std.proofs.lemmas.Bool.{eq-eqb, eqb-true}
use Rattle.qz_values.specs.declared.Ty.{Ty}
use Rattle.qz_values.specs.declared.Know.TheVariants.{Known}
use Rattle.qz_values.specs.Values.{value_of, bits_of}
use Rattle.qz_rails.specs.Bits.{exclusive, number_of, same_from}
use Rattle.qz_rails.specs.Rails.{told}
use Rattle.qz_rails.specs.Changes.{are_unlike}
use Rattle.qz_rails.proofs.BitNumbers.{same_number}

alike_bits : (xs ys : List Bool) → length xs ≡ length ys → number_of xs ≡ number_of ys → same_from true xs ys ≡ true
alike_bits xs ys e h = same_number true xs ys e ∙ eq-eqb (number_of xs) (number_of ys) h

same_bits : (xs ys : List Bool) → length xs ≡ length ys → same_from true xs ys ≡ true → number_of xs ≡ number_of ys
same_bits xs ys e h = eqb-true (number_of xs) (number_of ys) (sym (same_number true xs ys e) ∙ h)

not_false : (b : Bool) → not b ≡ false → b ≡ true
not_false true h = refl
not_false false h = absurd cc

two_known : (t : Ty) (xs ys : List Bool) → length xs ≡ length ys →
    (not (same_from true xs ys) ≡ false) ↔ (Known (value_of t (number_of xs)) ≡ Known (value_of t (number_of ys)))
two_known t xs ys e = (
  λ h. ap (λ n. Known (value_of t n)) (same_bits xs ys e (not_false (same_from true xs ys) h)),
  λ h. let v : value_of t (number_of xs) ≡ value_of t (number_of ys) = cc in ap not (alike_bits xs ys e (ap bits_of v)),
)

-- a contradiction, and the rest where neither has one
abbrev differing : Bool → Bool → List Bool → Bool → Bool → List Bool → Bool
differing ac ak xs bc bk ys = exclusive ac bc || (not ac && are_unlike ak xs bk ys)

differs : (t : Ty) (ac ak bc bk : Bool) (xs ys : List Bool) → length xs ≡ length ys →
    (differing ac ak xs bc bk ys ≡ false) ↔ (told ac ak (value_of t (number_of xs)) ≡ told bc bk (value_of t (number_of ys)))
differs t true ak true bk xs ys e = (λ h. refl, λ h. refl)
differs t true ak false true xs ys e = (λ h. absurd cc, λ h. absurd cc)
differs t true ak false false xs ys e = (λ h. absurd cc, λ h. absurd cc)
differs t false true true bk xs ys e = (λ h. absurd cc, λ h. absurd cc)
differs t false false true bk xs ys e = (λ h. absurd cc, λ h. absurd cc)
differs t false true false true xs ys e = two_known t xs ys e
differs t false true false false xs ys e = (λ h. absurd cc, λ h. absurd cc)
differs t false false false true xs ys e = (λ h. absurd cc, λ h. absurd cc)
differs t false false false false xs ys e = (λ h. refl, λ h. refl)

-- the same, by equations
pub differs_by : (t : Ty) (a b : Bool × Bool × List Bool) (r : Bool) → length a.2 ≡ length b.2 →
    r ≡ exclusive a.0 b.0 || (not a.0 && are_unlike a.1 a.2 b.1 b.2) →
    (r ≡ false) ↔ (told a.0 a.1 (value_of t (number_of a.2)) ≡ told b.0 b.1 (value_of t (number_of b.2)))
differs_by t a b r e is = rw is (differs t a.0 a.1 b.0 b.1 a.2 b.2 e)

-- nowhere both: where p is true the difference is false
pub never_both : (P : Type 0) (p s r : Bool) → (s ≡ false) ↔ P → r ≡ p && s → (r ≡ false) ↔ (p ≡ true → P)
never_both P true s r means is = (λ h q. means.0 (sym is ∙ h), λ h. is ∙ means.1 (h refl))
never_both P false s r means is = (λ h q. absurd cc, λ h. is)
