-- The lists between steps, and what a step leaves of them.
use Rattle.std.proofs.Common.{◌≡◌, ℕ, zero, suc, Bool, true, false, List, [], ◌∷◌, map, length, get_or, replicate, refl, sym, ap, subst, ◌∙◌, get_or-set_other}
use Rattle.std.specs.Prelude.{◌==◌, if◌then◌else◌}
use Rattle.std.proofs.lemmas.Bool.{false≢true}
use Rattle.std.proofs.lemmas.List.{length-set}
use Rattle.qz_values.specs.declared.Know.TheVariants as know
use Rattle.qz_syntax.specs.declared.modules.Module.{Module}
use Rattle.qz_syntax.specs.declared.places.Later.TheVariants as later
use Rattle.qz_meaning.specs.Instances.{Instance}
use Rattle.qz_meaning.specs.Programs.{instances_of}
use Rattle.qz_react.specs.declared.environments.Met.{Met}
use Rattle.qz_interp.specs.declared.lists.Lists.{Lists}
use Rattle.qz_interp.specs.declared.slots.Entry.TheVariants.{Unmet}
use Rattle.qz_interp.specs.declared.slots.Slot.{Slot}
use Rattle.qz_interp.specs.Entering.{blank_slot, no_slot, with_entry, with_met, entered}
use Rattle.qz_interp.specs.RoundTables.{entry_with}
use Rattle.qz_interp.specs.Resting.{AreAtRest, AreTouched}
use Rattle.qz_interp.specs.Touching.{is_among, assigned, OnlyThere, Suits, IsClear}
use Rattle.qz_interp.proofs.TouchLemmas.{only_nothing, set_back, get_or_replicate, differs}

-- only what is met is entered
entered_elsewhere : (k : ℕ) (slots : List Slot) (met : List Met) → is_among met k ≡ false → get_or (entered slots met) k no_slot ≡ get_or slots k no_slot
entered_elsewhere k slots [] h = refl
entered_elsewhere k slots (one ∷ met) h = by_same (entered_elsewhere k (with_met slots one) met) (one.instance == k) refl h where
  by_same : (is_among met k ≡ false → get_or (entered (with_met slots one) met) k no_slot ≡ get_or (with_met slots one) k no_slot)
      → (b : Bool) → (one.instance == k) ≡ b → (if b then true else is_among met k) ≡ false
      → get_or (entered (with_met slots one) met) k no_slot ≡ get_or slots k no_slot
  by_same others true e bad = absurd (false≢true (sym bad))
  by_same others false e rest =
      others rest
      ∙ get_or-set_other slots one.instance k (with_entry (get_or slots one.instance no_slot) (entry_with one.store)) no_slot (differs one.instance k e)

length-entered : (slots : List Slot) (met : List Met) → length (entered slots met) ≡ length slots
length-entered slots [] = refl
length-entered slots (one ∷ met) =
    length-entered (with_met slots one) met ∙ length-set slots one.instance (with_entry (get_or slots one.instance no_slot) (entry_with one.store))

pub only_entered : (slots : List Slot) (met : List Met) → OnlyThere no_slot met slots (entered slots met)
only_entered slots met = record { count = length-entered slots met; elsewhere = λ k h. entered_elsewhere k slots met h }

-- no slot is met where none is
nothing_met : (m : Module) (instances : List Instance) (k : ℕ) → (get_or (map (blank_slot m) instances) k no_slot).entry ≡ Unmet
nothing_met m [] k = refl
nothing_met m (i ∷ instances) zero = refl
nothing_met m (i ∷ instances) (suc k) = nothing_met m instances k

-- lists at rest, of which some slots of what is met are touched
pub touched : (m : Module) (old new : Lists) → AreAtRest m old → new.blank.items ≡ old.blank.items → OnlyThere no_slot new.met.items old.slots.items new.slots.items
    → new.env.now.items ≡ old.env.now.items → new.env.later.items ≡ old.env.later.items → new.sheet ≡ old.sheet → AreTouched m new
touched m old new rest blank slots now_is later_is sheet = record {
  blank = blank ∙ rest.blank;
  slots = only;
  suits = record {
    unmet = λ k h. ap (λ (slot : Slot). slot.entry) (only.elsewhere k h ∙ ap (λ (xs : List Slot). get_or xs k no_slot) (blank ∙ rest.blank)) ∙ nothing_met m (instances_of m) k;
    now = subst (λ xs. OnlyThere know.Unknown new.met.items (replicate (length new.slots.items) know.Unknown) xs)
        (ap (λ n. replicate n know.Unknown) as_many ∙ sym rest.now ∙ sym now_is) (only_nothing know.Unknown new.met.items (replicate (length new.slots.items) know.Unknown));
    later = subst (λ xs. OnlyThere later.Unknown new.met.items (replicate (length new.slots.items) later.Unknown) xs)
        (ap (λ n. replicate n later.Unknown) as_many ∙ sym rest.later ∙ sym later_is) (only_nothing later.Unknown new.met.items (replicate (length new.slots.items) later.Unknown));
  };
  sheet = subst (IsClear (length new.slots.items)) (sym sheet) (subst (λ n. IsClear n old.sheet) (sym as_many) rest.sheet);
}
  where
    only : OnlyThere no_slot new.met.items new.blank.items new.slots.items
    only = subst (λ (xs : List Slot). OnlyThere no_slot new.met.items xs new.slots.items) (rest.slots ∙ sym blank) slots

    as_many : length new.slots.items ≡ length old.blank.items
    as_many = only.count ∙ ap length blank

-- set back, the lists are at rest
pub rested : (m : Module) (old new : Lists) → AreTouched m old → new.blank.items ≡ old.blank.items
    → new.slots.items ≡ assigned (λ k. get_or old.blank.items k no_slot) old.slots.items old.met.items
    → new.env.now.items ≡ assigned (λ k. know.Unknown) old.env.now.items old.met.items
    → new.env.later.items ≡ assigned (λ k. later.Unknown) old.env.later.items old.met.items
    → new.sheet ≡ old.sheet → AreAtRest m new
rested m old new touched blank slots now_is later_is sheet = record {
  blank = blank ∙ touched.blank;
  slots = slots ∙ set_back no_slot old.met.items (λ k. get_or old.blank.items k no_slot) old.blank.items old.slots.items touched.slots (λ k less. refl) ∙ sym blank;
  now = now_is
      ∙ set_back know.Unknown old.met.items (λ k. know.Unknown) (replicate (length old.slots.items) know.Unknown) old.env.now.items touched.suits.now
      (λ k less. sym (get_or_replicate (length old.slots.items) k know.Unknown))
      ∙ ap (λ n. replicate n know.Unknown) as_many;
  later = later_is
      ∙ set_back later.Unknown old.met.items (λ k. later.Unknown) (replicate (length old.slots.items) later.Unknown) old.env.later.items touched.suits.later
      (λ k less. sym (get_or_replicate (length old.slots.items) k later.Unknown))
      ∙ ap (λ n. replicate n later.Unknown) as_many;
  sheet = subst (IsClear (length new.blank.items)) (sym sheet) (subst (λ n. IsClear n old.sheet) as_many touched.sheet);
}
  where
    as_many : length old.slots.items ≡ length new.blank.items
    as_many = touched.slots.count ∙ ap length (sym blank)

-- while a step goes on the lists stay touched
pub still_touched : (m : Module) (old new : Lists) → AreTouched m old → new.blank.items ≡ old.blank.items → new.slots.items ≡ old.slots.items
    → new.met.items ≡ old.met.items → Suits old.slots.items old.met.items new.env → IsClear (length old.slots.items) new.sheet → AreTouched m new
still_touched m old new touched blank slots met suits sheet = record {
  blank = blank ∙ touched.blank;
  slots = rw (blank, slots, met) touched.slots;
  suits = rw (slots, met) suits;
  sheet = rw slots sheet;
}
