-- The first instances are those of the outputs, in their order.
use Rattle.std.proofs.Common.{◌≡◌, ◌≢◌, ℕ, zero, suc, ◌+◌, ◌<◌, ◌≤◌, Bool, true, false, List, [], ◌∷◌, length, Some, refl, sym, ap, subst, ◌∙◌, arith, zero-add, if◌then◌else◌}
use Rattle.std.specs.Prelude.{◌&&◌, ◌||◌, not, ◌==◌, nat_lt, slice_get}
use Rattle.std.proofs.lemmas.Bool.{and_parts, false≢true, eqb-true, eq-eqb, ltb-true}
use Rattle.qz_syntax.specs.declared.declarations.Port.{Port}
use Rattle.qz_system.specs.declared.parts.Inst.{Inst}
use Rattle.qz_system.specs.declared.parts.SystemParts.{SystemParts}
use Rattle.qz_system.specs.Parts.{AreParts, comes_after, go_on, are_in_order, count_of, have_one}
use Rattle.qz_system.specs.Nexts.{instance_of}
use Rattle.qz_equations.proofs.ActLemmas.{other_number}

-- cells from this number on, none falling
abbrev AreFrom : ℕ → List Inst → Type 0
AreFrom m [] = Unit {0}
AreFrom m (x ∷ xs) = (m ≤ x.cell) × AreFrom x.cell xs

not_before : (one next : Inst) → comes_after one next ≡ true → one.cell ≤ next.cell
not_before one next h = by (nat_lt one.cell next.cell) refl (one.cell == next.cell) refl (not next.zero) h
  where
    by : (b : Bool) → nat_lt one.cell next.cell ≡ b → (c : Bool) → (one.cell == next.cell) ≡ c → (d : Bool) → (b || (c && d)) ≡ true → one.cell ≤ next.cell
    by true less c e d is = let below = ltb-true one.cell next.cell less in omega (arith, below)
    by false less true e d is = let same = eqb-true one.cell next.cell e in omega (arith, same)
    by false less false e d is = absurd (false≢true is)

from_one : (one : Inst) (others : List Inst) → go_on one others ≡ true → AreFrom one.cell others
from_one one [] h = tt
from_one one (next ∷ others) h = let both = and_parts (comes_after one next) (go_on next others) h in (not_before one next both.0, from_one next others both.1)

from_zero : (instances : List Inst) → are_in_order instances ≡ true → AreFrom 0 instances
from_zero [] h = tt
from_zero (one ∷ others) h = (omega arith, from_one one others h)

-- no instance is of a cell before
none_before : (c m : ℕ) (xs : List Inst) → c < m → AreFrom m xs → count_of c xs ≡ 0
none_before c m [] less from = refl
none_before c m (x ∷ xs) less from =
    let other : (x.cell == c) ≡ false = other_number x.cell c (λ e. omega (arith, e, from.0, less)) in
    let rest = none_before c x.cell xs (omega (arith, from.0, less)) from.1 in
    ap (λ b. (if b then 1 else 0) + count_of c xs) other ∙ zero-add (count_of c xs) ∙ rest

-- nor of this one, where none is counted
after_none : (c : ℕ) (xs : List Inst) → AreFrom c xs → count_of c xs ≡ 0 → AreFrom (c + 1) xs
after_none c [] from none = tt
after_none c (x ∷ xs) from none = by (x.cell == c) refl
  where
    by : (b : Bool) → (x.cell == c) ≡ b → AreFrom (c + 1) (x ∷ xs)
    by true e = let counted = sym (ap (λ d. (if d then 1 else 0) + count_of c xs) e) ∙ none in absurd (omega (arith, counted))
    by false e =
        let other : x.cell ≢ c = λ same. false≢true (sym e ∙ eq-eqb x.cell c same) in
        (omega (arith, from.0, other), from.1)

-- an instance of a cell before isn't counted for those after
skipped : (x : Inst) (xs : List Inst) (ports : List Port) (cell : ℕ) → x.cell < cell → have_one ports cell (x ∷ xs) ≡ true → have_one ports cell xs ≡ true
skipped x xs [] cell less h = refl
skipped x xs (port ∷ ports) cell less h =
    let both = and_parts (count_of cell (x ∷ xs) == 1) (have_one ports (cell + 1) (x ∷ xs)) h in
    let other : (x.cell == cell) ≡ false = other_number x.cell cell (λ e. omega (arith, e, less)) in
    let same : count_of cell (x ∷ xs) ≡ count_of cell xs = ap (λ b. (if b then 1 else 0) + count_of cell xs) other ∙ zero-add (count_of cell xs) in
    let here : (count_of cell xs == 1) ≡ true = ap (λ n. n == 1) (sym same) ∙ both.0 in
    let rest = skipped x xs ports (cell + 1) (omega (arith, less)) both.1 in
    ap (λ b. b && have_one ports (cell + 1) xs) here ∙ rest

pub record IsFirst (instances : List Inst) (cell first n : ℕ) : Type 0 where
  pub one : Inst
  pub at : slice_get instances n ≡ Some one
  pub is : one.cell ≡ cell
  pub found : instance_of cell first instances ≡ Some (first + n)

firsts : (ports : List Port) (from first : ℕ) (instances : List Inst) → AreFrom from instances → have_one ports from instances ≡ true
    → (k : ℕ) → k < length ports → IsFirst instances (from + k) first k
firsts [] from first instances order one k within = absurd (omega (arith, within))
firsts (port ∷ ports) from first [] order one k within = absurd (false≢true one)
firsts (port ∷ ports) from first (x ∷ xs) order one k within =
    by (λ rest holds j below. firsts ports (from + 1) (first + 1) xs rest holds j below) (x.cell == from) refl k within
  where
    both : ((count_of from (x ∷ xs) == 1) ≡ true) × (have_one ports (from + 1) (x ∷ xs) ≡ true)
    both = and_parts (count_of from (x ∷ xs) == 1) (have_one ports (from + 1) (x ∷ xs)) one

    counted : count_of from (x ∷ xs) ≡ 1
    counted = eqb-true (count_of from (x ∷ xs)) 1 both.0

    by : (AreFrom (from + 1) xs → have_one ports (from + 1) xs ≡ true → (j : ℕ) → j < length ports → IsFirst xs (from + 1 + j) (first + 1) j)
        → (b : Bool) → (x.cell == from) ≡ b → (k : ℕ) → k < length (port ∷ ports) → IsFirst (x ∷ xs) (from + k) first k
    by again false e k below =
        let other : x.cell ≢ from = λ same. false≢true (sym e ∙ eq-eqb x.cell from same) in
        let none = none_before from x.cell xs (omega (arith, order.0, other)) order.1 in
        let zero_counted = sym (ap (λ d. (if d then 1 else 0) + count_of from xs) e) ∙ counted in
        absurd (omega (arith, none, zero_counted))
    by again true e zero below =
        let same = eqb-true x.cell from e in
        let here : (x.cell == from + 0) ≡ true = eq-eqb x.cell (from + 0) (omega (arith, same)) in
        record {
          one = x;
          at = refl;
          is = omega (arith, same);
          found = ap (λ b. if b then Some first else instance_of (from + 0) (first + 1) xs) here ∙ ap (λ n. Some n) (let n : first ≡ first + 0 = omega arith in n);
        }
    by again true e (suc j) below =
        let same = eqb-true x.cell from e in
        let none : count_of from xs ≡ 0 =
        let c = sym (ap (λ d. (if d then 1 else 0) + count_of from xs) e) ∙ counted in omega (arith, c) in
        let order_from : AreFrom from xs = subst (λ m. AreFrom m xs) same order.1 in
        let later = again (after_none from xs order_from none) (skipped x xs ports (from + 1) (omega (arith, same)) both.1) j (omega (arith, below)) in
        let cell_is : from + 1 + j ≡ from + suc j = omega arith in
        let other : (x.cell == from + suc j) ≡ false = other_number x.cell (from + suc j) (λ eq. omega (arith, eq, same)) in
        record {
          one = later.one;
          at = later.at;
          is = later.is ∙ cell_is;
          found = ap (λ b. if b then Some first else instance_of (from + suc j) (first + 1) xs) other
              ∙ ap (λ c. instance_of c (first + 1) xs) (sym cell_is) ∙ later.found ∙ ap (λ n. Some n) (let n : first + 1 + j ≡ first + suc j = omega arith in n);
        }

pub output_first : (parts : SystemParts) → AreParts parts → (n : ℕ) → n < length parts.outputs → IsFirst parts.instances n 0 n
output_first parts are n within =
    let h = firsts parts.outputs 0 0 parts.instances (from_zero parts.instances are.is_ordered.instance_order) are.is_ordered.output_instances n within in
    let same : 0 + n ≡ n = omega arith in
    record { one = h.one; at = h.at; is = h.is ∙ same; found = ap (λ c. instance_of c 0 parts.instances) (sym same) ∙ h.found }
