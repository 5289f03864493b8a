-- The first of some faults.
use Rattle.std.proofs.Common.{◌≡◌, ℕ, zero, suc, ◌+◌, ◌*◌, ◌<◌, ◌≤◌, Bool, true, false, List, [], ◌∷◌, length, Option, Some, None, get_or, MatchOption, Contains, refl, sym, if◌then◌else◌, arith}
use Rattle.std.proofs.lemmas.Bool.Decides.{nat_tests}
use Rattle.qz_types.specs.declared.faults.Fault.{Fault}
use Rattle.qz_types.specs.declared.faults.TypeKind.{TypeKind}
use Rattle.qz_types.specs.declared.faults.TypeKind.TheVariants.{UnknownName, DoubleName, TypeDiffers, WidthRange, LiteralRange, WriteToInput, NotWritable, ArgCount, ArgClass, SliceRange, TooMany}
use Rattle.qz_types.specs.Faults.{rank, comes_before, first_with, IsFirst}

rank_small : (kind : TypeKind) → rank kind ≤ 10
rank_small UnknownName = omega arith
rank_small DoubleName = omega arith
rank_small TypeDiffers = omega arith
rank_small WidthRange = omega arith
rank_small LiteralRange = omega arith
rank_small WriteToInput = omega arith
rank_small NotWritable = omega arith
rank_small ArgCount = omega arith
rank_small ArgClass = omega arith
rank_small SliceRange = omega arith
rank_small TooMany = omega arith

-- the order of faults as one of numbers
abbrev key : Fault → ℕ
key a = a.offset * 16 + rank a.kind

less : (a b : Fault) → comes_before a b ≡ true → key a < key b
less a b e = let r = rank_small a.kind in let s = rank_small b.kind in grind (arith, nat_tests)

not_less : (a b : Fault) → comes_before a b ≡ false → key b ≤ key a
not_less a b e = let r = rank_small a.kind in let s = rank_small b.kind in grind (arith, nat_tests)

never_true : (t : Bool) → (t ≡ true → ⊥) → t ≡ false
never_true true h = absurd (h refl)
never_true false h = refl

not_before : (a b : Fault) → key b ≤ key a → comes_before a b ≡ false
not_before a b h = never_true (comes_before a b) (λ e. omega (arith, less a b e))

-- one of them, and none is less
record Least (faults : List Fault) (f : Fault) : Type 0 where
  stands : Contains faults f
  first : (k : ℕ) (d : Fault) → k < length faults → key f ≤ key (get_or faults k d)

-- what holds of the first and of each later one holds of each
each : (P : Fault → Type 0) (x : Fault) (xs : List Fault) → P x → ((k : ℕ) (d : Fault) → k < length xs → P (get_or xs k d))
    → (k : ℕ) (d : Fault) → k < length (x ∷ xs) → P (get_or (x ∷ xs) k d)
each P x xs here later zero d within = here
each P x xs here later (suc k) d within = later k d (omega arith)

here_stands : (x : Fault) (xs : List Fault) → Contains (x ∷ xs) x
here_stands x xs = (0, omega arith, refl)

later_stands : (x f : Fault) (xs : List Fault) → Contains xs f → Contains (x ∷ xs) f
later_stands x f xs c = (suc c.0, omega (arith, c.1), c.2)

-- one among some stands also where another was put in second
skipped : (g x f : Fault) (xs : List Fault) (k : ℕ) → k < length (g ∷ xs) → get_or (g ∷ xs) k f ≡ f → Contains (g ∷ x ∷ xs) f
skipped g x f xs zero within is = (0, omega arith, is)
skipped g x f xs (suc k) within is = (suc (suc k), omega arith, is)

-- the first of two, with the others after them
least_of_two : (g x f : Fault) (xs : List Fault) (t : Bool) → comes_before x g ≡ t → Least ((if t then x else g) ∷ xs) f → Least (g ∷ x ∷ xs) f
least_of_two g x f xs true e least =
    let less_x = least.first 0 f (omega arith) in
    let before_g = less x g e in
    record {
      stands = later_stands g f (x ∷ xs) least.stands;
      first = each (λ o. key f ≤ key o) g (x ∷ xs) (omega arith) least.first;
    }
least_of_two g x f xs false e least =
    let less_g = least.first 0 f (omega arith) in
    let before_x = not_less x g e in
    let rest : (k : ℕ) (d : Fault) → k < length xs → key f ≤ key (get_or xs k d) = λ k d within. least.first (suc k) d (omega arith) in
    record {
      stands = skipped g x f xs least.stands.0 least.stands.1 least.stands.2;
      first = each (λ o. key f ≤ key o) g (x ∷ xs) less_g (each (λ o. key f ≤ key o) x xs (omega arith) rest);
    }

least_with : (g : Fault) (xs : List Fault) (f : Fault) → first_with (Some g) xs ≡ Some f → Least (g ∷ xs) f
least_with g [] f e =
    let is : g ≡ f = cc in
    record {
      stands = (0, omega arith, is);
      first = each (λ o. key f ≤ key o) g [] (rw is (omega arith)) (λ k d within. absurd (omega arith));
    }
least_with g (x ∷ xs) f e = least_of_two g x f xs (comes_before x g) refl (least_with (if comes_before x g then x else g) xs f e)

never : (g : Fault) (xs : List Fault) → first_with (Some g) xs ≡ None → ⊥
never g [] e = cc
never g (x ∷ xs) e = never (if comes_before x g then x else g) xs e

-- the first of some faults, or that there are none
pub first_or_none : (xs : List Fault) (fault : Option Fault) → fault ≡ first_with None xs → MatchOption fault (xs ≡ []) (λ f. IsFirst xs f)
first_or_none [] None e = refl
first_or_none [] (Some f) e = cc
first_or_none (x ∷ xs) None e = absurd (never x xs (sym e))
first_or_none (x ∷ xs) (Some f) e =
    let least = least_with x xs f (sym e) in
    record { stands = least.stands; first = λ k d within. not_before (get_or (x ∷ xs) k d) f (least.first k d within) }
