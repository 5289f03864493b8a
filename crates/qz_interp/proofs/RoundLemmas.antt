-- Tables of slots and verdicts settle to the next round.
use Rattle.std.proofs.Common.{◌≡◌, ℕ, zero, suc, ◌+◌, ◌<◌, Bool, true, false, List, [], ◌∷◌, map, length, replicate, Option, Some, None, get_or, refl, sym, ap, ap₂, subst, ◌∙◌, arith}
use Rattle.std.specs.Prelude.{◌==◌, if◌then◌else◌, unwrap_or, slice_get}
use Rattle.std.specs.List.{AllByRecursion}
use Rattle.std.proofs.lemmas.List.{length-replicate, get_or-replicate}
use Rattle.std.proofs.lemmas.Option.{slice_get-get_or, slice_get_within}
use Rattle.qz_values.specs.declared.Ty.{Ty}
use Rattle.qz_values.specs.declared.Value.{Value}
use Rattle.qz_values.specs.Values.{no, default_of}
use Rattle.qz_syntax.specs.declared.declarations.Class.{Class}
use Rattle.qz_syntax.specs.declared.declarations.Class.TheVariants.{Event}
use Rattle.qz_syntax.specs.declared.expressions.Var.{Var}
use Rattle.qz_syntax.specs.declared.expressions.Var.TheVariants as var
use Rattle.qz_syntax.specs.declared.modules.Module.{Module}
use Rattle.qz_syntax.specs.declared.places.Mark.{Mark}
use Rattle.qz_syntax.specs.declared.places.Mark.TheVariants as mark
use Rattle.qz_syntax.specs.declared.places.Store.{Store}
use Rattle.qz_syntax.specs.WellFormed.{IsNumbered}
use Rattle.qz_meaning.specs.Instances.{Instance, is_same_mark}
use Rattle.qz_meaning.specs.Accounts.{Write}
use Rattle.qz_meaning.specs.Layouts.{Met}
use Rattle.qz_meaning.specs.Programs.{Program, times, program_of}
use Rattle.qz_meaning.specs.Scenes.{default_store}
use Rattle.qz_meaning.specs.Configurations.{Configuration}
use Rattle.qz_meaning.specs.Settling.{Environment, with_pending, settled, step_writes, step_met, given, input_of, met_as}
use Rattle.qz_meaning.specs.Rounds.{next_round, now_or_unknown, later_or_unknown}
use Rattle.qz_meaning.specs.Verdicts.{Verdict, Nobody, verdict, tally}
use Rattle.qz_meaning.proofs.Finding.{met_found}
use Rattle.qz_meaning.proofs.Orderly.{own_numbers}
use Rattle.qz_interp.specs.declared.slots.Entry.TheVariants.{Unmet, New}
use Rattle.qz_interp.specs.declared.slots.Slot.{Slot}
use Rattle.qz_interp.specs.Slots.{value_in, value_at, later_in, later_at, values_from, laters_from}
use Rattle.qz_interp.specs.Tallying.{Numbered, written}
use Rattle.qz_interp.specs.RoundTables.{entry_with, entry_of, IsSlotOf, AreSlotsOf, verdicts_on, TablesAreRounds}
use Rattle.qz_interp.proofs.Distinct.{instances_distinct, formal_stands}
use Rattle.qz_interp.proofs.SettlingLemmas.{settled_as_defined}
use Rattle.qz_interp.proofs.TallyLemmas.{tallies_are_verdicts}

-- one slot's value stands at its number
values_at : (slots : List Slot) (verdicts : List Verdict) (a k : ℕ) (slot : Slot) → slice_get slots k ≡ Some slot
    → slice_get (values_from a slots verdicts) k ≡ Some (value_at slot (get_or verdicts (a + k) Nobody))
values_at [] verdicts a k slot h = cc
values_at (x ∷ xs) verdicts a zero slot h =
    let here : a ≡ a + 0 = omega arith in
    let is : x ≡ slot = ap (λ o. unwrap_or o x) h in
    ap₂ (λ (s : Slot) (n : ℕ). Some (value_at s (get_or verdicts n Nobody))) is here
values_at (x ∷ xs) verdicts a (suc k) slot h =
    let there : (a + 1) + k ≡ a + suc k = omega arith in
    values_at xs verdicts (a + 1) k slot h ∙ ap (λ n. Some (value_at slot (get_or verdicts n Nobody))) there

laters_at : (slots : List Slot) (verdicts : List Verdict) (a k : ℕ) (slot : Slot) → slice_get slots k ≡ Some slot
    → slice_get (laters_from a slots verdicts) k ≡ Some (later_at slot (get_or verdicts (a + k) Nobody))
laters_at [] verdicts a k slot h = cc
laters_at (x ∷ xs) verdicts a zero slot h =
    let here : a ≡ a + 0 = omega arith in
    let is : x ≡ slot = ap (λ o. unwrap_or o x) h in
    ap₂ (λ (s : Slot) (n : ℕ). Some (later_at s (get_or verdicts n Nobody))) is here
laters_at (x ∷ xs) verdicts a (suc k) slot h =
    let there : (a + 1) + k ≡ a + suc k = omega arith in
    laters_at xs verdicts (a + 1) k slot h ∙ ap (λ n. Some (later_at slot (get_or verdicts n Nobody))) there

get_or-found : (xs : List Verdict) (k : ℕ) (x d : Verdict) → slice_get xs k ≡ Some x → get_or xs k d ≡ x
get_or-found [] k x d h = cc
get_or-found (y ∷ xs) zero x d h = ap (λ o. unwrap_or o y) h
get_or-found (y ∷ xs) (suc k) x d h = get_or-found xs k x d h

-- an instance that is met settles as its slot does
value_met : (class : Class) (t : Ty) (store : Option Store) (v : Verdict)
    → value_in class (default_of t) (entry_with store) v
    ≡ settled class t (unwrap_or store (default_store t)) (with_pending (unwrap_or store (default_store t)) v)
value_met class t None v = settled_as_defined class t (default_store t) (with_pending (default_store t) v)
value_met class t (Some store) v = settled_as_defined class t store (with_pending store v)

later_met : (store : Option Store) (v : Verdict) → later_in (entry_with store) v ≡ later_in New v
later_met None v = refl
later_met (Some store) v = refl

not_input : (inputs : List ℕ) (row : List Value) (n : ℕ) → times n inputs ≡ 0 → input_of inputs row n ≡ None
not_input [] row n h = refl
not_input (input ∷ inputs) [] n h = refl
not_input (input ∷ inputs) (v ∷ row) n h = by_test (λ k. not_input inputs row n k) (input == n) h where
  by_test : (times n inputs ≡ 0 → input_of inputs row n ≡ None) → (b : Bool) → (if b then 1 else 0) + times n inputs ≡ 0 → (if b then Some v else input_of inputs row n) ≡ None
  by_test later true k = absurd (omega (arith, k))
  by_test later false k = later (omega (arith, k))

if_none : (b : Bool) (o : Option Value) → o ≡ None → (if b then o else None) ≡ None
if_none true o h = h
if_none false o h = refl

all_here : (met : List Met) → AllByRecursion (λ (one : Met). Unit {0}) met
all_here [] = tt
all_here (one ∷ met) = (tt, all_here met)

module _ (m : Module) (numbered : IsNumbered m) (c : Configuration) (row : List Value) where
  abbrev p : Program
  p = program_of m

  -- no instance that has a number is an input
  pub free : (k : ℕ) (i : Instance) → slice_get p.instances k ≡ Some i → given p row i ≡ None
  free k i h = by_variable i.variable i.mark h where
    by_variable : (x : Var) (mk : Mark) → slice_get p.instances k ≡ Some (record { variable = x; mark = mk }) → given p row record { variable = x; mark = mk } ≡ None
    by_variable (var.Formal n) mk e =
        let output = formal_stands m numbered k n mk e in
        let most = (own_numbers m numbered).formals n in
        if_none (is_same_mark mk mark.Zero) (input_of p.inputs row n) (not_input p.inputs row n (omega (arith, output, most)))
    by_variable (var.Local n) mk e = if_none (is_same_mark mk mark.Zero) None refl
    by_variable (var.Bound n) mk e = if_none (is_same_mark mk mark.Zero) None refl

  module _ (i : Instance) (writes : List Write) where
    -- by whether the step meets the instance
    value_by : (found : Option Met) → met_as i (step_met p c) ≡ found
        → value_in (p.class_of i.variable) (default_of (p.type_of i.variable)) (entry_of found) (verdict i false writes) ≡ now_or_unknown p writes None found
    value_by None e = refl
    value_by (Some one) e =
        let is : one.instance ≡ i = (met_found (λ (met : Met). Unit {0}) (step_met p c) i one (all_here (step_met p c)) e).1 in
        value_met (p.class_of i.variable) (p.type_of i.variable) one.store (verdict i false writes)
        ∙ ap (λ (j : Instance). settled (p.class_of j.variable) (p.type_of j.variable) (unwrap_or one.store (default_store (p.type_of j.variable)))
        (with_pending (unwrap_or one.store (default_store (p.type_of j.variable))) (verdict j false writes))) (sym is)

    later_by : (found : Option Met) → met_as i (step_met p c) ≡ found
        → later_in (entry_of found) (verdict i true writes) ≡ later_or_unknown writes found
    later_by None e = refl
    later_by (Some one) e =
        let is : one.instance ≡ i = (met_found (λ (met : Met). Unit {0}) (step_met p c) i one (all_here (step_met p c)) e).1 in
        later_met one.store (verdict i true writes) ∙ ap (λ (j : Instance). later_in New (verdict j true writes)) (sym is)

  module _ (env : Environment) (slots : List Slot) (are : AreSlotsOf p c slots) (ns : List Numbered)
      (walked : map (written p.instances) ns ≡ map Some (step_writes p c env)) (k : ℕ) (i : Instance) (at_k : slice_get p.instances k ≡ Some i) where
    within : k < length slots
    within = let h = slice_get_within p.instances k i at_k in let e = are.count in omega (arith, h, e)

    abbrev here : Slot
    here = get_or slots k record { class = Event; default = no; entry = Unmet }

    at_slot : slice_get slots k ≡ Some here
    at_slot = slice_get-get_or slots k record { class = Event; default = no; entry = Unmet } within

    is_slot : IsSlotOf p c i here
    is_slot = are.each k i here at_k at_slot

    -- the verdict in the table is the one on the writes
    tally_at : (d : Bool) → get_or (verdicts_on d (length slots) ns) (0 + k) Nobody ≡ verdict i d (step_writes p c env)
    tally_at d =
        let none : 0 + k ≡ k = omega arith in
        let room : k < length (replicate (length slots) Nobody) = subst (λ n. k < n) (sym (length-replicate (length slots) Nobody)) within in
        ap (λ n. get_or (verdicts_on d (length slots) ns) n Nobody) none
        ∙ get_or-found (verdicts_on d (length slots) ns) k (tally i d (get_or (replicate (length slots) Nobody) k Nobody) (step_writes p c env)) Nobody
        (tallies_are_verdicts p.instances (instances_distinct m numbered) d ns (step_writes p c env) walked (replicate (length slots) Nobody) k i at_k room)
        ∙ ap (λ v. tally i d v (step_writes p c env)) (get_or-replicate (length slots) k Nobody Nobody within)

    now_at : slice_get (values_from 0 slots (verdicts_on false (length slots) ns)) k ≡ Some ((next_round p c row env).now i)
    now_at =
        values_at slots (verdicts_on false (length slots) ns) 0 k here at_slot
        ∙ ap (λ v. Some (value_at here v)) (tally_at false)
        ∙ ap (λ v. Some v) (
        ap (λ class. value_in class here.default here.entry (verdict i false (step_writes p c env))) is_slot.class
        ∙ ap (λ default. value_in (p.class_of i.variable) default here.entry (verdict i false (step_writes p c env))) is_slot.default
        ∙ ap (λ entry. value_in (p.class_of i.variable) (default_of (p.type_of i.variable)) entry (verdict i false (step_writes p c env))) is_slot.entry
        ∙ value_by i (step_writes p c env) (met_as i (step_met p c)) refl
        ∙ ap (λ given. now_or_unknown p (step_writes p c env) given (met_as i (step_met p c))) (sym (free k i at_k)))

    later_at_k : slice_get (laters_from 0 slots (verdicts_on true (length slots) ns)) k ≡ Some ((next_round p c row env).later i)
    later_at_k =
        laters_at slots (verdicts_on true (length slots) ns) 0 k here at_slot
        ∙ ap (λ v. Some (later_at here v)) (tally_at true)
        ∙ ap (λ v. Some v) (
        ap (λ entry. later_in entry (verdict i true (step_writes p c env))) is_slot.entry
        ∙ later_by i (step_writes p c env) (met_as i (step_met p c)) refl)

pub tables_are_rounds : TablesAreRounds
tables_are_rounds m numbered c row env slots are ns walked = record {
  now = λ k i at_k. now_at m numbered c row env slots are ns walked k i at_k;
  later = λ k i at_k. later_at_k m numbered c row env slots are ns walked k i at_k;
}
