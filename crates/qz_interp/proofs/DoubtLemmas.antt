-- The lists of a round tell the first doubt.
use Rattle.std.proofs.Common.{◌≡◌, ℕ, zero, suc, ◌+◌, ◌<◌, Bool, true, false, List, [], ◌∷◌, Option, Some, None, get_or, refl, sym, ap, ap₂, subst, ◌∙◌, arith}
use Rattle.std.specs.Prelude.{slice_get, MatchOption}
use Rattle.std.specs.Option.{option_map, option_or}
use Rattle.std.proofs.lemmas.Option.{slice_get-get_or, slice_get_within}
use Rattle.qz_values.specs.declared.Know.{Know}
use Rattle.qz_values.specs.declared.Know.TheVariants as know
use Rattle.qz_values.specs.Values.{no}
use Rattle.qz_syntax.specs.declared.declarations.Class.TheVariants.{Event}
use Rattle.qz_syntax.specs.declared.places.Later.{Later}
use Rattle.qz_syntax.specs.declared.places.Later.TheVariants as later
use Rattle.qz_syntax.specs.declared.places.Store.{Store}
use Rattle.qz_syntax.specs.declared.refusals.Doubt.{Doubt}
use Rattle.qz_meaning.specs.Instances.{Instance, formal_instance}
use Rattle.qz_meaning.specs.Layouts.{Met}
use Rattle.qz_meaning.specs.Programs.{Program}
use Rattle.qz_meaning.specs.Configurations.{Configuration}
use Rattle.qz_meaning.specs.Settling.{Environment, step_met, met_as}
use Rattle.qz_meaning.proofs.Lists.{none≢some, some_same}
use Rattle.qz_interp.specs.declared.doubts.Doubted.{Doubted}
use Rattle.qz_interp.specs.declared.slots.Entry.TheVariants.{Unmet}
use Rattle.qz_interp.specs.declared.slots.Slot.{Slot}
use Rattle.qz_interp.specs.Doubts.{doubt_of, doubt_of_later, doubted_in, doubted_from}
use Rattle.qz_interp.specs.FirstDoubts.{AreLists, HasNoDoubt, IsInDoubt, NoDoubt, IsFirstDoubt, ListsTellDoubts}
use Rattle.qz_interp.specs.RoundTables.{entry_with, entry_of, AreSlotsOf}

module _ (known : List Know) (delayed : List Later) where
  -- what is told of one slot
  abbrev told : ℕ → Slot → Option Doubted
  told number slot = doubted_in slot.entry number (get_or known number know.Unknown) (get_or delayed number later.Unknown)

  -- none of some slots, of which this is the number of the first, is in doubt
  abbrev NoneTold : ℕ → List Slot → Type 0
  NoneTold a slots = (k : ℕ) (slot : Slot) → slice_get slots k ≡ Some slot → told (a + k) slot ≡ None

  -- the first of them that is
  record FirstTold (a : ℕ) (slots : List Slot) (d : Doubted) : Type 0 where
    pub place : ℕ
    pub slot : Slot
    pub at : slice_get slots place ≡ Some slot
    pub tells : told (a + place) slot ≡ Some d
    pub before : (k : ℕ) (other : Slot) → k < place → slice_get slots k ≡ Some other → told (a + k) other ≡ None

  tells : (a : ℕ) (slots : List Slot) → MatchOption (doubted_from a slots known delayed) (NoneTold a slots) (FirstTold a slots)
  tells a [] = λ k slot h. absurd (none≢some slot h)
  tells a (x ∷ xs) = by_first (told a x) refl (doubted_from (a + 1) xs known delayed) (tells (a + 1) xs) where
    here : a ≡ a + 0
    here = omega arith

    by_rest : told a x ≡ None → (rest : Option Doubted) → MatchOption rest (NoneTold (a + 1) xs) (FirstTold (a + 1) xs)
        → MatchOption rest (NoneTold a (x ∷ xs)) (FirstTold a (x ∷ xs))
    by_rest e None t = none_of where
      none_of : NoneTold a (x ∷ xs)
      none_of zero slot h = subst (λ n. told n slot ≡ None) here (subst (λ (s : Slot). told a s ≡ None) (some_same x slot h) e)
      none_of (suc k) slot h = let there : (a + 1) + k ≡ a + suc k = omega arith in subst (λ n. told n slot ≡ None) there (t k slot h)
    by_rest e (Some d) t = record {
      place = suc t.place;
      slot = t.slot;
      at = t.at;
      tells = let there : (a + 1) + t.place ≡ a + suc t.place = omega arith in subst (λ n. told n t.slot ≡ Some d) there t.tells;
      before = before_it;
    }
      where
        before_it : (k : ℕ) (other : Slot) → k < suc t.place → slice_get (x ∷ xs) k ≡ Some other → told (a + k) other ≡ None
        before_it zero other less h = subst (λ n. told n other ≡ None) here (subst (λ (s : Slot). told a s ≡ None) (some_same x other h) e)
        before_it (suc k) other less h =
            let there : (a + 1) + k ≡ a + suc k = omega arith in subst (λ n. told n other ≡ None) there (t.before k other (omega arith) h)

    by_first : (first : Option Doubted) → told a x ≡ first → (rest : Option Doubted) → MatchOption rest (NoneTold (a + 1) xs) (FirstTold (a + 1) xs)
        → MatchOption (option_or first rest) (NoneTold a (x ∷ xs)) (FirstTold a (x ∷ xs))
    by_first None e rest t = by_rest e rest t
    by_first (Some d) e rest t = record {
      place = 0;
      slot = x;
      at = refl;
      tells = subst (λ n. told n x ≡ Some d) here e;
      before = λ k other less h. absurd (omega (arith, less));
    }

pub found_or : {A : Type 0} (xs : List A) (k : ℕ) (x d : A) → slice_get xs k ≡ Some x → get_or xs k d ≡ x
found_or [] k x d h = absurd (none≢some x h)
found_or (y ∷ xs) zero x d h = some_same y x h
found_or (y ∷ xs) (suc k) x d h = found_or xs k x d h

pub none_or : {A : Type 0} (xs : List A) (k : ℕ) (d : A) → slice_get xs k ≡ None → get_or xs k d ≡ d
none_or [] k d h = refl
none_or (y ∷ xs) zero d h = absurd (none≢some y (sym h))
none_or (y ∷ xs) (suc k) d h = none_or xs k d h

abbrev of_value : ℕ → Doubt → Doubted
of_value number why = record { number = number; delayed = false; doubt = why }

abbrev of_delayed : ℕ → Doubt → Doubted
of_delayed number why = record { number = number; delayed = true; doubt = why }

abbrev either : ℕ → Option Doubt → Option Doubt → Option Doubted
either number a b = option_or (option_map (of_value number) a) (option_map (of_delayed number) b)

none_of_either : (number : ℕ) (a b : Option Doubt) → either number a b ≡ None → (a ≡ None) × (b ≡ None)
none_of_either number None None h = (refl, refl)
none_of_either number None (Some why) h = absurd (none≢some (of_delayed number why) (sym h))
none_of_either number (Some why) b h = absurd (none≢some (of_value number why) (sym h))

abbrev InDoubt : Option Doubt → Option Doubt → Bool → Doubt → Type 0
InDoubt a b false why = a ≡ Some why
InDoubt a b true why = (a ≡ None) × (b ≡ Some why)

one_of_either : (number : ℕ) (a b : Option Doubt) (d : Doubted) → either number a b ≡ Some d → (d.number ≡ number) × InDoubt a b d.delayed d.doubt
one_of_either number (Some why) b d h =
    subst (λ (e : Doubted). (e.number ≡ number) × InDoubt (Some why) b e.delayed e.doubt) (some_same (of_value number why) d h) (refl, refl)
one_of_either number None (Some why) d h =
    subst (λ (e : Doubted). (e.number ≡ number) × InDoubt None (Some why) e.delayed e.doubt) (some_same (of_delayed number why) d h) (refl, (refl, refl))
one_of_either number None None d h = absurd (none≢some d h)

in_doubt : (env : Environment) (i : Instance) (b : Bool) (why : Doubt) → InDoubt (doubt_of (env.now i)) (doubt_of_later (env.later i)) b why → IsInDoubt env i b why
in_doubt env i false why h = h
in_doubt env i true why h = h

-- an instance that is met tells what is in doubt
met_tells : (store : Option Store) (number : ℕ) (k : Know) (l : Later) → doubted_in (entry_with store) number k l ≡ either number (doubt_of k) (doubt_of_later l)
met_tells None number k l = refl
met_tells (Some store) number k l = refl

module _ (p : Program) (c : Configuration) (env : Environment) (slots : List Slot) (known : List Know) (delayed : List Later)
    (are : AreSlotsOf p c slots) (lists : AreLists p env known delayed) where
  abbrev slot_at : ℕ → Slot
  slot_at k = get_or slots k record { class = Event; default = no; entry = Unmet }

  there : (k : ℕ) (i : Instance) → slice_get p.instances k ≡ Some i → slice_get slots k ≡ Some (slot_at k)
  there k i h =
      let within = slice_get_within p.instances k i h in
      let same = are.count in
      slice_get-get_or slots k record { class = Event; default = no; entry = Unmet } (omega (arith, within, same))

  -- what is told of an instance
  told_of : (k : ℕ) (i : Instance) → slice_get p.instances k ≡ Some i → (slot : Slot) → slice_get slots k ≡ Some slot
      → told known delayed (0 + k) slot ≡ doubted_in (entry_of (met_as i (step_met p c))) k (env.now i) (env.later i)
  told_of k i h slot at =
      let none : 0 + k ≡ k = omega arith in
      ap (λ n. told known delayed n slot) none
      ∙ ap (λ entry. doubted_in entry k (get_or known k know.Unknown) (get_or delayed k later.Unknown)) (are.each k i slot h at).entry
      ∙ ap₂ (λ (v : Know) (l : Later). doubted_in (entry_of (met_as i (step_met p c))) k v l)
      (found_or known k (env.now i) know.Unknown (lists.now k i h)) (found_or delayed k (env.later i) later.Unknown (lists.later k i h))

  undoubted : (k : ℕ) (i : Instance) (one : Met) → slice_get p.instances k ≡ Some i → met_as i (step_met p c) ≡ Some one
      → told known delayed (0 + k) (slot_at k) ≡ None → HasNoDoubt env i
  undoubted k i one h met e =
      let none = none_of_either k (doubt_of (env.now i)) (doubt_of_later (env.later i))
      (sym (met_tells one.store k (env.now i) (env.later i)) ∙ sym (ap (λ found. doubted_in (entry_of found) k (env.now i) (env.later i)) met)
      ∙ sym (told_of k i h (slot_at k) (there k i h)) ∙ e) in
      record { now = none.0; later = none.1 }

  abbrev instance_at : ℕ → Instance
  instance_at k = get_or p.instances k (formal_instance 0)

  first : (d : Doubted) → FirstTold known delayed 0 slots d → IsFirstDoubt p c env d
  first d t = by_met (met_as (instance_at t.place) (step_met p c)) refl where
    at_i : slice_get p.instances t.place ≡ Some (instance_at t.place)
    at_i =
        let within = slice_get_within slots t.place t.slot t.at in
        let same = are.count in
        slice_get-get_or p.instances t.place (formal_instance 0) (omega (arith, within, same))

    tells_d : doubted_in (entry_of (met_as (instance_at t.place) (step_met p c))) t.place (env.now (instance_at t.place)) (env.later (instance_at t.place)) ≡ Some d
    tells_d = sym (told_of t.place (instance_at t.place) at_i t.slot t.at) ∙ t.tells

    by_met : (found : Option Met) → met_as (instance_at t.place) (step_met p c) ≡ found → IsFirstDoubt p c env d
    by_met None e = absurd (none≢some d (sym (ap (λ found. doubted_in (entry_of found) t.place (env.now (instance_at t.place)) (env.later (instance_at t.place))) e) ∙ tells_d))
    by_met (Some one) e =
        let both = one_of_either t.place (doubt_of (env.now (instance_at t.place))) (doubt_of_later (env.later (instance_at t.place))) d
        (sym (met_tells one.store t.place (env.now (instance_at t.place)) (env.later (instance_at t.place))) ∙ sym (ap (λ found. doubted_in (entry_of found) t.place (env.now (instance_at t.place)) (env.later (instance_at t.place))) e) ∙ tells_d) in
        record {
          instance = (instance_at t.place);
          number = ap (slice_get p.instances) both.0 ∙ at_i;
          met = one;
          is_met = e;
          doubt = in_doubt env (instance_at t.place) d.delayed d.doubt both.1;
          first = λ k j other less at met.
              let number = both.0 in
              undoubted k j other at met (t.before k (slot_at k) (omega (arith, number, less)) (there k j at));
        }

  lists_tell : MatchOption (doubted_from 0 slots known delayed) (NoDoubt p c env) (IsFirstDoubt p c env)
  lists_tell = by_answer (doubted_from 0 slots known delayed) (tells known delayed 0 slots) where
    by_answer : (answer : Option Doubted) → MatchOption answer (NoneTold known delayed 0 slots) (FirstTold known delayed 0 slots)
        → MatchOption answer (NoDoubt p c env) (IsFirstDoubt p c env)
    by_answer None none = λ k i one at met. undoubted k i one at met (none k (slot_at k) (there k i at))
    by_answer (Some d) t = first d t

pub lists_tell_doubts : ListsTellDoubts
lists_tell_doubts p c env slots known delayed are lists = lists_tell p c env slots known delayed are lists
