-- The number of an instance is its place among the program's.
use Rattle.std.proofs.Common.{◌≡◌, ℕ, zero, suc, ◌+◌, Bool, true, false, List, [], ◌∷◌, Some, refl, sym, ap, subst, ◌∙◌, arith}
use Rattle.std.specs.Prelude.{◌==◌, if◌then◌else◌, slice_get}
use Rattle.std.proofs.lemmas.Bool.{false≢true, eqb-true}
use Rattle.qz_meaning.specs.Instances.{Instance, is_same_instance}
use Rattle.qz_meaning.proofs.Lists.{none≢some, some_same}
use Rattle.qz_meaning.proofs.Finding.{same_from_test}
use Rattle.qz_meaning.proofs.Orderly.{instance_self}
use Rattle.qz_interp.specs.Numbering.{AreDistinct}
use Rattle.qz_single.specs.Numbering.{place_among}

distinct_rest : (i : Instance) (xs : List Instance) → AreDistinct (i ∷ xs) → AreDistinct xs
distinct_rest i xs d j k a b e f same = let one = d (suc j) (suc k) a b e f same in omega (arith, one)

-- where an instance stands is its place
pub place_at : (xs : List Instance) → AreDistinct xs → (k : ℕ) (i : Instance) → slice_get xs k ≡ Some i → place_among i xs ≡ k
place_at [] d k i e = absurd (none≢some i e)
place_at (x ∷ xs) d zero i e =
    ap {B = ℕ} (λ (t : Bool). if t then 0 else place_among i xs + 1) (subst (λ (j : Instance). is_same_instance x j ≡ true) (some_same _ _ e) (instance_self x))
place_at (x ∷ xs) d (suc k) i e = by (is_same_instance x i) refl (place_at xs (distinct_rest x xs d) k i e) where
  by : (t : Bool) → is_same_instance x i ≡ t → place_among i xs ≡ k → (if t then 0 else place_among i xs + 1) ≡ suc k
  by true same later = let wrong = d 0 (suc k) x i refl e same in absurd (omega (arith, wrong))
  by false same later = omega (arith, later)

-- what has this place stands there
pub at_place : (xs : List Instance) (k : ℕ) (i j : Instance) → slice_get xs k ≡ Some i → place_among j xs ≡ k → j ≡ i
at_place [] k i j e is = absurd (none≢some i e)
at_place (x ∷ xs) k i j e is = by k (is_same_instance x j) refl e is (λ n f g. at_place xs n i j f g) where
  by : (k : ℕ) (t : Bool) → is_same_instance x j ≡ t → slice_get (x ∷ xs) k ≡ Some i → (if t then 0 else place_among j xs + 1) ≡ k
      → ((n : ℕ) → slice_get xs n ≡ Some i → place_among j xs ≡ n → j ≡ i) → j ≡ i
  by zero true same e is later = sym (same_from_test x j same) ∙ some_same _ _ e
  by (suc k) true same e is later = absurd (omega (arith, is))
  by zero false same e is later = absurd (omega (arith, is))
  by (suc k) false same e is later = later k e (omega (arith, is))

-- so numbers tell instances apart
pub place_test : (xs : List Instance) → AreDistinct xs → (k : ℕ) (i j : Instance) → slice_get xs k ≡ Some i → (place_among j xs == k) ≡ is_same_instance j i
place_test xs d k i j e = by (place_among j xs == k) (is_same_instance j i) refl refl where
  by : (s t : Bool) → (place_among j xs == k) ≡ s → is_same_instance j i ≡ t → s ≡ t
  by true true f g = refl
  by true false f g =
      absurd (false≢true (sym g ∙ subst (λ (it : Instance). is_same_instance j it ≡ true) (at_place xs k i j e (eqb-true _ _ f)) (instance_self j)))
  by false true f g =
      absurd (false≢true (sym f ∙ subst (λ (n : ℕ). (n == k) ≡ true) (sym (place_at xs d k j (e ∙ ap Some (sym (same_from_test j i g))))) (let h : (k == k) ≡ true = grind arith in h)))
  by false false f g = refl
