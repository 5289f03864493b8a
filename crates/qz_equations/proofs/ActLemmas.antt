-- Acts on instances, and tallies that count one more.
use Rattle.std.proofs.Common.{◌≡◌, ◌≢◌, ℕ, zero, suc, Bool, true, false, List, [], ◌∷◌, set, Option, Some, None, refl, sym, ap, subst, ◌∙◌, ◌⊎◌, inl, inr, arith, if◌then◌else◌}
use Rattle.std.specs.Prelude.{◌==◌, slice_get}
use Rattle.std.proofs.lemmas.Bool.{and_parts, false≢true, eq-eqb}
use Rattle.std.proofs.lemmas.List.{length-set}
use Rattle.qz_values.specs.declared.Ty.{Ty}
use Rattle.qz_values.specs.declared.Ty.TheVariants.{Bool as Truth}
use Rattle.qz_values.specs.declared.Know.{Know}
use Rattle.qz_nets.specs.Readings.{type_in}
use Rattle.qz_verilog.specs.Types.{NetTypes}
use Rattle.qz_verilog.specs.Meaning.{Nets}
use Rattle.qz_meaning.specs.Verdicts.{Verdict, join}
use Rattle.qz_system.specs.declared.parts.Act.{Act}
use Rattle.qz_system.specs.declared.parts.SystemParts.{SystemParts}
use Rattle.qz_system.specs.Parts.{instance_type, are_one, is_bool_net, is_act_right}
use Rattle.qz_system.specs.Writers.{is_to, verdict_of_act}
use Rattle.qz_system.proofs.Finding.{the_type}
use Rattle.qz_equations.specs.declared.tallies.Tally.{Tally}
use Rattle.qz_equations.specs.Tallies.{ShowsVerdict, ShowVerdicts, IsTally}
use Rattle.qz_equations.specs.Unrolled.{AreTallies}

-- what stands in a list after a write was written, or stood there
pub get_written : {A : Type 0} (xs : List A) (i : ℕ) (y : A) (n : ℕ) (x : A) → slice_get (set xs i y) n ≡ Some x
    → ((n ≡ i) × (y ≡ x)) ⊎ ((n ≢ i) × (slice_get xs n ≡ Some x))
get_written [] i y n x at = absurd (cc)
get_written (z ∷ xs) zero y zero x at = inl (refl, cc)
get_written (z ∷ xs) zero y (suc n) x at = inr (λ e. omega (arith, e), at)
get_written (z ∷ xs) (suc i) y zero x at = inr (λ e. omega (arith, e), at)
get_written (z ∷ xs) (suc i) y (suc n) x at = elim (get_written xs i y n x at) [
  | inl h ↦ inl (ap suc h.0, h.1)
  | inr h ↦ inr (λ e. h.0 (omega (arith, e)), h.1)
]

-- two types that are there and one
pub both_there : (a b : Option Ty) → are_one a b ≡ true → (ty : Ty) × (a ≡ Some ty) × (b ≡ Some ty)
both_there None b h = absurd (false≢true h)
both_there (Some ty) b h = (ty, refl, the_type ty b h)

module _ (parts : SystemParts) (act : Act) (right : is_act_right parts act ≡ true) where
  pub guard_is : type_in parts.table act.guard.0 ≡ Some Truth
  guard_is = the_type Truth (type_in parts.table act.guard.0) (and_parts (is_bool_net parts act.guard) _ right).0

  pub value_is : (ty : Ty) × (instance_type parts act.instance ≡ Some ty) × (type_in parts.table act.value.0 ≡ Some ty)
  value_is = both_there (instance_type parts act.instance) (type_in parts.table act.value.0) (and_parts (is_bool_net parts act.guard) _ right).1

-- an act of the kind is to its instance, and to no other
pub to_own : (act : Act) (d : Bool) → act.delayed ≡ d → is_to act.instance d act ≡ true
to_own act true same = ap (λ b. if b then act.instance == act.instance else false) same ∙ eq-eqb act.instance act.instance refl
to_own act false same = ap (λ b. if b then false else act.instance == act.instance) same ∙ eq-eqb act.instance act.instance refl

pub other_number : (m n : ℕ) → n ≢ m → (m == n) ≡ false
other_number m n h = by (m == n) refl
  where
    by : (b : Bool) → (m == n) ≡ b → b ≡ false
    by true e = absurd (h (grind (arith, e)))
    by false e = refl

pub to_no_other : (act : Act) (d : Bool) (n : ℕ) → n ≢ act.instance → is_to n d act ≡ false
to_no_other act true n h = by act.delayed
  where
    by : (b : Bool) → (if b then act.instance == n else false) ≡ false
    by true = other_number act.instance n h
    by false = refl
to_no_other act false n h = by act.delayed
  where
    by : (b : Bool) → (if b then false else act.instance == n) ≡ false
    by true = refl
    by false = other_number act.instance n h

-- one of the other kind is to none
pub to_none : (act : Act) (d : Bool) (n : ℕ) → act.delayed ≢ d → is_to n d act ≡ false
to_none act true n h = by act.delayed refl
  where
    by : (b : Bool) → act.delayed ≡ b → (if b then act.instance == n else false) ≡ false
    by true is = absurd (h is)
    by false is = refl
to_none act false n h = by act.delayed refl
  where
    by : (b : Bool) → act.delayed ≡ b → (if b then false else act.instance == n) ≡ false
    by true is = refl
    by false is = absurd (h is)

-- verdicts by instances, with one act more
abbrev pub with_one : (ℕ → Know) → Bool → Act → (ℕ → Verdict) → ℕ → Verdict
with_one know d act verdicts n = if is_to n d act then join (verdicts n) (verdict_of_act know act) else verdicts n

module _ (nets : Nets) (tallies : List Tally) (know : ℕ → Know) (d : Bool) (act : Act) (verdicts : ℕ → Verdict)
    (shown : ShowVerdicts nets tallies verdicts) where
  pub none_counted : act.delayed ≢ d → ShowVerdicts nets tallies (with_one know d act verdicts)
  none_counted other = λ n tally at. rw (to_none act d n other) (shown n tally at)

  pub one_counted : act.delayed ≡ d → (tally : Tally) → ShowsVerdict nets tally (join (verdicts act.instance) (verdict_of_act know act))
      → ShowVerdicts nets (set tallies act.instance tally) (with_one know d act verdicts)
  one_counted same tally here = λ n t at. by n t (get_written tallies act.instance tally n t at)
    where
      by : (n : ℕ) (t : Tally) → ((n ≡ act.instance) × (tally ≡ t)) ⊎ ((n ≢ act.instance) × (slice_get tallies n ≡ Some t))
          → ShowsVerdict nets t (with_one know d act verdicts n)
      by n t (inl own) = rw (own.0, ← own.1, to_own act d same) here
      by n t (inr other) = rw (to_no_other act d n other.0) (shown n t other.1)

pub tallies_written : (types : NetTypes) (parts : SystemParts) (tallies : List Tally) (i : ℕ) (tally : Tally) → AreTallies types parts tallies
    → ((ty : Ty) → instance_type parts i ≡ Some ty → IsTally types ty tally) → AreTallies types parts (set tallies i tally)
tallies_written types parts tallies i tally are here = record {
  count = length-set tallies i tally ∙ are.count;
  each = λ n ty t is at. by n ty t is (get_written tallies i tally n t at);
}
  where
    by : (n : ℕ) (ty : Ty) (t : Tally) → instance_type parts n ≡ Some ty → ((n ≡ i) × (tally ≡ t)) ⊎ ((n ≢ i) × (slice_get tallies n ≡ Some t)) → IsTally types ty t
    by n ty t is (inl own) = subst (IsTally types ty) own.1 (here ty (ap (instance_type parts) (sym own.0) ∙ is))
    by n ty t is (inr other) = are.each n ty t is other.1

abbrev pub no_act : Act
no_act = record { instance = 0; delayed = false; guard = record { 0 = 0 }; value = record { 0 = 0 } }
