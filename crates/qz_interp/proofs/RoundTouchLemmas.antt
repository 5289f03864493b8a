-- A round touches what is met alone, and what is met settles as it does with all.
use Rattle.std.proofs.Common.{◌≡◌, ◌<◌, ◌+◌, ℕ, zero, suc, Bool, true, false, List, [], ◌∷◌, map, length, get_or, set, replicate, refl, sym, ap, subst, ◌∙◌, arith}
use Rattle.std.specs.Prelude.{if◌then◌else◌}
use Rattle.qz_values.specs.declared.Know.{Know}
use Rattle.qz_values.specs.declared.Know.TheVariants as know
use Rattle.qz_syntax.specs.declared.places.Later.{Later}
use Rattle.qz_syntax.specs.declared.places.Later.TheVariants as later
use Rattle.qz_meaning.specs.Verdicts.{Verdict, Nobody, join, verdict_of_one}
use Rattle.qz_react.specs.declared.environments.Env.{Env}
use Rattle.qz_react.specs.declared.environments.Met.{Met}
use Rattle.qz_react.specs.declared.environments.Write.{Write}
use Rattle.qz_interp.specs.declared.rounds.Sheet.{Sheet}
use Rattle.qz_interp.specs.declared.slots.Entry.{Entry}
use Rattle.qz_interp.specs.declared.slots.Slot.{Slot}
use Rattle.qz_interp.specs.Entering.{no_slot}
use Rattle.qz_interp.specs.Slots.{value_in, later_in, value_at, later_at, values_from, laters_from}
use Rattle.qz_interp.specs.RoundTables.{verdicts_on}
use Rattle.qz_interp.specs.Walked.{numbered, Settles}
use Rattle.qz_interp.specs.Tallying.{Numbered, is_same_kind, with_write, tallied, cleared}
use Rattle.qz_interp.specs.Touching.{is_among, assigned, OnlyThere, value_by, later_by, Suits, IsClear}
use Rattle.qz_interp.proofs.TouchLemmas.{only_assigned, assigned_is, get_or_replicate, length-replicate}

module _ (verdicts : List Verdict) where
  length-values : (a : ℕ) (slots : List Slot) → length (values_from a slots verdicts) ≡ length slots
  length-values a [] = refl
  length-values a (slot ∷ slots) = ap suc (length-values (a + 1) slots)

  values_at : (a k : ℕ) (slots : List Slot) → k < length slots
      → get_or (values_from a slots verdicts) k know.Unknown ≡ value_at (get_or slots k no_slot) (get_or verdicts (a + k) Nobody)
  values_at a k [] less = absurd (omega (arith, less))
  values_at a zero (slot ∷ slots) less = let same : a ≡ a + 0 = omega arith in ap (λ n. value_at slot (get_or verdicts n Nobody)) same
  values_at a (suc k) (slot ∷ slots) less =
      let same : (a + 1) + k ≡ a + suc k = omega arith in
      values_at (a + 1) k slots (omega (arith, less)) ∙ ap (λ n. value_at (get_or slots k no_slot) (get_or verdicts n Nobody)) same

  length-laters : (a : ℕ) (slots : List Slot) → length (laters_from a slots verdicts) ≡ length slots
  length-laters a [] = refl
  length-laters a (slot ∷ slots) = ap suc (length-laters (a + 1) slots)

  laters_at : (a k : ℕ) (slots : List Slot) → k < length slots
      → get_or (laters_from a slots verdicts) k later.Unknown ≡ later_at (get_or slots k no_slot) (get_or verdicts (a + k) Nobody)
  laters_at a k [] less = absurd (omega (arith, less))
  laters_at a zero (slot ∷ slots) less = let same : a ≡ a + 0 = omega arith in ap (λ n. later_at slot (get_or verdicts n Nobody)) same
  laters_at a (suc k) (slot ∷ slots) less =
      let same : (a + 1) + k ≡ a + suc k = omega arith in
      laters_at (a + 1) k slots (omega (arith, less)) ∙ ap (λ n. later_at (get_or slots k no_slot) (get_or verdicts n Nobody)) same

module _ (slots : List Slot) (met : List Met) (env : Env) (suits : Suits slots met env) (verdicts : List Verdict) where
  from_zero : (k : ℕ) → 0 + k ≡ k
  from_zero k = omega arith

  pub values_settled : assigned (value_by slots verdicts) env.now.items met ≡ values_from 0 slots verdicts
  values_settled =
      assigned_is know.Unknown met (value_by slots verdicts) (replicate (length slots) know.Unknown) env.now.items (values_from 0 slots verdicts) suits.now
      (length-values verdicts 0 slots ∙ sym (length-replicate (length slots) know.Unknown)) (λ k less among. sym (there k less)) elsewhere
    where
      there : (k : ℕ) → k < length (replicate (length slots) know.Unknown) → get_or (values_from 0 slots verdicts) k know.Unknown ≡ value_by slots verdicts k
      there k less =
          values_at verdicts 0 k slots (subst (λ n. k < n) (length-replicate (length slots) know.Unknown) less)
          ∙ ap (λ n. value_at (get_or slots k no_slot) (get_or verdicts n Nobody)) (from_zero k)

      elsewhere : (k : ℕ) → k < length (replicate (length slots) know.Unknown) → is_among met k ≡ false
          → get_or (replicate (length slots) know.Unknown) k know.Unknown ≡ get_or (values_from 0 slots verdicts) k know.Unknown
      elsewhere k less e =
          get_or_replicate (length slots) k know.Unknown
          ∙ sym (there k less ∙ ap (λ (entry : Entry). value_in (get_or slots k no_slot).class (get_or slots k no_slot).default entry (get_or verdicts k Nobody)) (suits.unmet k e))

  pub laters_settled : assigned (later_by slots verdicts) env.later.items met ≡ laters_from 0 slots verdicts
  laters_settled =
      assigned_is later.Unknown met (later_by slots verdicts) (replicate (length slots) later.Unknown) env.later.items (laters_from 0 slots verdicts) suits.later
      (length-laters verdicts 0 slots ∙ sym (length-replicate (length slots) later.Unknown)) (λ k less among. sym (there k less)) elsewhere
    where
      there : (k : ℕ) → k < length (replicate (length slots) later.Unknown) → get_or (laters_from 0 slots verdicts) k later.Unknown ≡ later_by slots verdicts k
      there k less =
          laters_at verdicts 0 k slots (subst (λ n. k < n) (length-replicate (length slots) later.Unknown) less)
          ∙ ap (λ n. later_at (get_or slots k no_slot) (get_or verdicts n Nobody)) (from_zero k)

      elsewhere : (k : ℕ) → k < length (replicate (length slots) later.Unknown) → is_among met k ≡ false
          → get_or (replicate (length slots) later.Unknown) k later.Unknown ≡ get_or (laters_from 0 slots verdicts) k later.Unknown
      elsewhere k less e =
          get_or_replicate (length slots) k later.Unknown
          ∙ sym (there k less ∙ ap (λ (entry : Entry). later_in entry (get_or verdicts k Nobody)) (suits.unmet k e))

-- what was written is taken away again
set_twice : {A : Type 0} (xs : List A) (k : ℕ) (x y : A) → set (set xs k x) k y ≡ set xs k y
set_twice [] k x y = refl
set_twice (z ∷ xs) zero x y = refl
set_twice (z ∷ xs) (suc k) x y = ap (λ ys. z ∷ ys) (set_twice xs k x y)

set_either : {A : Type 0} (xs : List A) (j k : ℕ) (x : A) → set (set xs j x) k x ≡ set (set xs k x) j x
set_either [] j k x = refl
set_either (z ∷ xs) zero zero x = refl
set_either (z ∷ xs) zero (suc k) x = refl
set_either (z ∷ xs) (suc j) zero x = refl
set_either (z ∷ xs) (suc j) (suc k) x = ap (λ ys. z ∷ ys) (set_either xs j k x)

set_replicate : {A : Type 0} (n k : ℕ) (x : A) → set (replicate n x) k x ≡ replicate n x
set_replicate zero k x = refl
set_replicate (suc n) zero x = refl
set_replicate (suc n) (suc k) x = ap (λ ys. x ∷ ys) (set_replicate n k x)

cleared_set : (verdicts : List Verdict) (k : ℕ) (ws : List Numbered) → cleared (set verdicts k Nobody) ws ≡ set (cleared verdicts ws) k Nobody
cleared_set verdicts k [] = refl
cleared_set verdicts k (w ∷ ws) = ap (λ v. cleared v ws) (set_either verdicts k w.number Nobody) ∙ cleared_set (set verdicts w.number Nobody) k ws

written_cleared : (delayed : Bool) (verdicts : List Verdict) (w : Numbered) → set (with_write delayed verdicts w) w.number Nobody ≡ set verdicts w.number Nobody
written_cleared delayed verdicts w = by_kind (is_same_kind delayed w.delayed) where
  by_kind : (b : Bool) → set (if b then set verdicts w.number (join (get_or verdicts w.number Nobody) (verdict_of_one w.guard w.value)) else verdicts) w.number Nobody ≡ set verdicts w.number Nobody
  by_kind true = set_twice verdicts w.number _ Nobody
  by_kind false = refl

tallied_cleared : (delayed : Bool) (verdicts : List Verdict) (ws : List Numbered) → cleared (tallied delayed verdicts ws) ws ≡ cleared verdicts ws
tallied_cleared delayed verdicts [] = refl
tallied_cleared delayed verdicts (w ∷ ws) =
    cleared_set (tallied delayed (with_write delayed verdicts w) ws) w.number ws
    ∙ ap (λ v. set v w.number Nobody) (tallied_cleared delayed (with_write delayed verdicts w) ws)
    ∙ sym (cleared_set (with_write delayed verdicts w) w.number ws)
    ∙ ap (λ v. cleared v ws) (written_cleared delayed verdicts w)

cleared_none : (count : ℕ) (ws : List Numbered) → cleared (replicate count Nobody) ws ≡ replicate count Nobody
cleared_none count [] = refl
cleared_none count (w ∷ ws) = ap (λ v. cleared v ws) (set_replicate count w.number Nobody) ∙ cleared_none count ws

pub clear_again : (delayed : Bool) (count : ℕ) (ws : List Numbered) → cleared (tallied delayed (replicate count Nobody) ws) ws ≡ replicate count Nobody
clear_again delayed count ws = tallied_cleared delayed (replicate count Nobody) ws ∙ cleared_none count ws

-- after a round only of what is met anything is known
pub suits_after : (slots : List Slot) (met : List Met) (old new : Env) (vs ws : List Verdict) → Suits slots met old
    → new.now.items ≡ assigned (value_by slots vs) old.now.items met → new.later.items ≡ assigned (later_by slots ws) old.later.items met → Suits slots met new
suits_after slots met old new vs ws suits now_is later_is = record {
  unmet = suits.unmet;
  now = subst (OnlyThere know.Unknown met (replicate (length slots) know.Unknown)) (sym now_is)
      (only_assigned know.Unknown met (value_by slots vs) (replicate (length slots) know.Unknown) old.now.items suits.now);
  later = subst (OnlyThere later.Unknown met (replicate (length slots) later.Unknown)) (sym later_is)
      (only_assigned later.Unknown met (later_by slots ws) (replicate (length slots) later.Unknown) old.later.items suits.later);
}

-- what is met settles as all do by the verdicts on the writes
pub settles_after : (slots : List Slot) (met : List Met) (old : Env) (sheet : Sheet) (writes : List Write) (values : List Know) (delayed : List Later)
    → Suits slots met old → IsClear (length slots) sheet
    → values ≡ assigned (value_by slots (tallied false sheet.now (map numbered writes))) old.now.items met
    → delayed ≡ assigned (later_by slots (tallied true sheet.later (map numbered writes))) old.later.items met
    → Settles slots writes values delayed
settles_after slots met old sheet writes values delayed suits clear values_are delayed_are = record {
  now = values_are
      ∙ ap (λ (none : List Verdict). assigned (value_by slots (tallied false none (map numbered writes))) old.now.items met) clear.now
      ∙ values_settled slots met old suits (verdicts_on false (length slots) (map numbered writes));
  later = delayed_are
      ∙ ap (λ (none : List Verdict). assigned (later_by slots (tallied true none (map numbered writes))) old.later.items met) clear.later
      ∙ laters_settled slots met old suits (verdicts_on true (length slots) (map numbered writes));
}

-- and the sheet is clear again
pub clear_after : (count : ℕ) (old new : Sheet) (numbered : List Numbered) → IsClear count old
    → new.now ≡ cleared (tallied false old.now numbered) numbered → new.later ≡ cleared (tallied true old.later numbered) numbered → IsClear count new
clear_after count old new ns clear now_is later_is = record {
  now = now_is ∙ ap (λ (none : List Verdict). cleared (tallied false none ns) ns) clear.now ∙ clear_again false count ns;
  later = later_is ∙ ap (λ (none : List Verdict). cleared (tallied true none ns) ns) clear.later ∙ clear_again true count ns;
}
