-- The slots once the step comes to what it meets, and the lists with which its rounds begin.
use Rattle.std.proofs.Common.{◌≡◌, ◌≢◌, ◌<◌, ◌*◌, ◌+◌, ℕ, zero, suc, Bool, true, false, List, [], ◌∷◌, ◌++◌, map, length, Option, Some, None, get_or, replicate, refl, sym, ap, ap₂, subst, ◌∙◌, get_or-set_other, get_or-set_same, arith}
use Rattle.std.specs.Prelude.{if◌then◌else◌, slice_get, slice_set}
use Rattle.std.specs.Option.{option_map}
use Rattle.std.specs.List.{AllByRecursion}
use Rattle.std.proofs.lemmas.List.{length-set, length-map}
use Rattle.std.proofs.lemmas.Option.{slice_get-map, slice_get_within}
use Rattle.std.proofs.lemmas.Bool.{false≢true}
use Rattle.qz_values.specs.declared.Value.{Value}
use Rattle.qz_values.specs.declared.Know.TheVariants as know
use Rattle.qz_syntax.specs.declared.declarations.Dir.TheVariants as dir
use Rattle.qz_syntax.specs.declared.modules.Module.{Module}
use Rattle.qz_syntax.specs.declared.places.Later.TheVariants as later
use Rattle.qz_syntax.specs.declared.places.Store.{Store}
use Rattle.qz_syntax.specs.WellFormed.{IsNumbered}
use Rattle.qz_meaning.specs.Instances.{Instance, is_same_instance, formal_instance}
use Rattle.qz_meaning.specs.Layouts.{Met as Passed}
use Rattle.qz_meaning.specs.Programs.{Program, program_of, instances_of, formals_of}
use Rattle.qz_meaning.specs.Configurations.{Configuration, layout_of}
use Rattle.qz_meaning.specs.Settling.{step_met, met_as, met_at, met_outputs}
use Rattle.qz_meaning.proofs.Lists.{none≢some, some_same}
use Rattle.qz_meaning.proofs.Orderly.{instance_self}
use Rattle.qz_react.specs.declared.environments.Env.{Env}
use Rattle.qz_react.specs.declared.environments.Met.{Met}
use Rattle.qz_react.specs.Seeing.{met_by}
use Rattle.qz_interp.specs.declared.slots.Entry.{Entry}
use Rattle.qz_interp.specs.declared.slots.Entry.TheVariants.{Unmet, New, Kept}
use Rattle.qz_interp.specs.declared.slots.Slot.{Slot}
use Rattle.qz_interp.specs.Numbering.{AreDistinct}
use Rattle.qz_interp.specs.Entering.{blank_slot, no_slot, first_entry, with_entry, with_met, entered, outputs_met}
use Rattle.qz_interp.specs.LastRounds.{HasNumber}
use Rattle.qz_interp.specs.RoundTables.{IsSlotOf, AreSlotsOf, entry_with, entry_of}
use Rattle.qz_interp.specs.OnlySteps.{IsPrepared}
use Rattle.qz_interp.proofs.Distinct.{instances_distinct}
use Rattle.qz_interp.proofs.DoubtLemmas.{found_or}
use Rattle.qz_interp.proofs.LastLemmas.{nothing_is_round_zero}

nil≢cons : {A : Type 0} (x : A) (xs : List A) → [] ≡ x ∷ xs → ⊥
nil≢cons x xs e = cc

head_same : {A : Type 0} (x y : A) (xs ys : List A) → x ∷ xs ≡ y ∷ ys → x ≡ y
head_same x y xs ys e = cc

tail_same : {A : Type 0} (x y : A) (xs ys : List A) → x ∷ xs ≡ y ∷ ys → xs ≡ ys
tail_same x y xs ys e = cc

-- what is read off one instance that is met, by its number
record Reads (instances : List Instance) (n : Met) (w : Passed) : Type 0 where
  pub instance : slice_get instances n.instance ≡ Some w.instance
  pub store : n.store ≡ w.store

reads : (instances : List Instance) (n : Met) (w : Passed) → met_by instances n ≡ Some w → Reads instances n w
reads instances n w h = by_found (slice_get instances n.instance) refl h where
  by_found : (found : Option Instance) → slice_get instances n.instance ≡ found
      → option_map (λ i. record { instance = i; store = n.store }) found ≡ Some w → Reads instances n w
  by_found None e k = absurd (none≢some w k)
  by_found (Some i) e k =
      let is = some_same record { instance = i; store = n.store } w k in
      record {
        instance = e ∙ ap (λ (u : Passed). Some u.instance) is;
        store = ap (λ (u : Passed). u.store) is;
      }

-- each instance that is met has a number
pub have_numbers : (p : Program) (ns : List Met) (ws : List Passed) → map (met_by p.instances) ns ≡ map Some ws → AllByRecursion (HasNumber p) ws
have_numbers p [] [] e = tt
have_numbers p [] (w ∷ ws) e = absurd (nil≢cons _ _ e)
have_numbers p (n ∷ ns) [] e = absurd (nil≢cons _ _ (sym e))
have_numbers p (n ∷ ns) (w ∷ ws) e =
    let r = reads p.instances n w (head_same _ _ _ _ e) in
    (record { number = n.instance; at = r.instance }, have_numbers p ns ws (tail_same _ _ _ _ e))

with_entries : Slot → Entry → Slot
with_entries slot entry = record { class = slot.class; default = slot.default; entry = entry }

unmet_last : (e : Entry) → first_entry e Unmet ≡ e
unmet_last Unmet = refl
unmet_last New = refl
unmet_last (Kept store) = refl

unchanged : (slot : Slot) → with_entry slot Unmet ≡ slot
unfolding with_entries
unchanged slot = ap (with_entries slot) (unmet_last slot.entry)

first_first : (a : Entry) (store : Option Store) (e : Entry) → first_entry (first_entry a (entry_with store)) e ≡ first_entry a (entry_with store)
first_first Unmet None e = refl
first_first Unmet (Some store) e = refl
first_first New store e = refl
first_first (Kept kept) store e = refl

first_counts : (slot : Slot) (store : Option Store) (e : Entry) → with_entry (with_entry slot (entry_with store)) e ≡ with_entry slot (entry_with store)
unfolding with_entries
first_counts slot store e = ap (with_entries slot) (first_first slot.entry store e)

length-entered : (slots : List Slot) (met : List Met) → length (entered slots met) ≡ length slots
length-entered slots [] = refl
length-entered slots (one ∷ met) =
    length-entered (with_met slots one) met ∙ length-set slots one.instance (with_entry (get_or slots one.instance no_slot) (entry_with one.store))

module _ (instances : List Instance) (distinct : AreDistinct instances) (k : ℕ) (i : Instance) (at_k : slice_get instances k ≡ Some i) where
  abbrev here : List Slot → Slot
  here slots = get_or slots k no_slot

  one_met : (n : Met) (w : Passed) → Reads instances n w → (slots : List Slot) → k < length slots
      → here (with_met slots n) ≡ (if is_same_instance w.instance i then with_entry (here slots) (entry_with w.store) else here slots)
  one_met n w r slots h = by_same (is_same_instance w.instance i) refl where
    by_same : (same : Bool) → is_same_instance w.instance i ≡ same
        → here (with_met slots n) ≡ (if same then with_entry (here slots) (entry_with w.store) else here slots)
    by_same true e =
        let is : n.instance ≡ k = distinct n.instance k w.instance i r.instance at_k e in
        subst (λ j. here (slice_set slots j (with_entry (get_or slots j no_slot) (entry_with n.store))) ≡ with_entry (here slots) (entry_with w.store)) (sym is)
        (get_or-set_same slots k (with_entry (here slots) (entry_with n.store)) no_slot h ∙ ap (λ store. with_entry (here slots) (entry_with store)) r.store)
    by_same false e =
        let other : k ≢ n.instance = λ is.
        let same : w.instance ≡ i = some_same w.instance i (sym r.instance ∙ ap (slice_get instances) (sym is) ∙ at_k) in
        false≢true (sym e ∙ ap (λ j. is_same_instance j i) same ∙ instance_self i) in
        get_or-set_other slots n.instance k (with_entry (get_or slots n.instance no_slot) (entry_with n.store)) no_slot other

  -- the slot of an instance has the first entry by which it is met
  entered_here : (ns : List Met) (ws : List Passed) → map (met_by instances) ns ≡ map Some ws → (slots : List Slot) → k < length slots
      → here (entered slots ns) ≡ with_entry (here slots) (entry_of (met_as i ws))
  entered_here [] [] e slots h = sym (unchanged (here slots))
  entered_here [] (w ∷ ws) e slots h = absurd (nil≢cons _ _ e)
  entered_here (n ∷ ns) [] e slots h = absurd (nil≢cons _ _ (sym e))
  entered_here (n ∷ ns) (w ∷ ws) e slots h =
      let r = reads instances n w (head_same _ _ _ _ e) in
      let within : k < length (with_met slots n) =
      subst (λ m. k < m) (sym (length-set slots n.instance (with_entry (get_or slots n.instance no_slot) (entry_with n.store)))) h in
      entered_here ns ws (tail_same _ _ _ _ e) (with_met slots n) within
      ∙ ap (λ slot. with_entry slot (entry_of (met_as i ws))) (one_met n w r slots h)
      ∙ by_same (is_same_instance w.instance i)
    where
      by_same : (b : Bool) → with_entry (if b then with_entry (here slots) (entry_with w.store) else here slots) (entry_of (met_as i ws))
          ≡ with_entry (here slots) (entry_of (if b then Some w else met_as i ws))
      by_same true = first_counts (here slots) w.store (entry_of (met_as i ws))
      by_same false = refl

get_map : {A B : Type 0} (f : A → B) (xs : List A) (k : ℕ) (x : A) → slice_get xs k ≡ Some x → slice_get (map f xs) k ≡ Some (f x)
get_map f xs k x h = slice_get-map f xs k ∙ ap (option_map f) h

-- the blank slot of an instance
pub blank_at : (m : Module) (k : ℕ) (i : Instance) → slice_get (instances_of m) k ≡ Some i → get_or (map (blank_slot m) (instances_of m)) k no_slot ≡ blank_slot m i
blank_at m k i at = found_or (map (blank_slot m) (instances_of m)) k (blank_slot m i) no_slot (get_map (blank_slot m) (instances_of m) k i at)

pub are_slots : (m : Module) → IsNumbered m → (c : Configuration) (met : List Met)
    → map (met_by (instances_of m)) met ≡ map Some (step_met (program_of m) c)
    → AreSlotsOf (program_of m) c (entered (map (blank_slot m) (instances_of m)) met)
are_slots m numbered c met e = record {
  count = length-entered (map (blank_slot m) (instances_of m)) met ∙ length-map (instances_of m) (blank_slot m);
  each = each_slot;
}
  where
    is_entered : (k : ℕ) (i : Instance) (slot : Slot) → slice_get (instances_of m) k ≡ Some i → slice_get (entered (map (blank_slot m) (instances_of m)) met) k ≡ Some slot
        → slot ≡ with_entry (blank_slot m i) (entry_of (met_as i (step_met (program_of m) c)))
    is_entered k i slot at there =
        let within : k < length (map (blank_slot m) (instances_of m)) =
        subst (λ n. k < n) (sym (length-map (instances_of m) (blank_slot m))) (slice_get_within (instances_of m) k i at) in
        sym (found_or (entered (map (blank_slot m) (instances_of m)) met) k slot no_slot there)
        ∙ entered_here (instances_of m) (instances_distinct m numbered) k i at met (step_met (program_of m) c) e (map (blank_slot m) (instances_of m)) within
        ∙ ap (λ s. with_entry s (entry_of (met_as i (step_met (program_of m) c)))) (blank_at m k i at)

    each_slot : (k : ℕ) (i : Instance) (slot : Slot) → slice_get (instances_of m) k ≡ Some i → slice_get (entered (map (blank_slot m) (instances_of m)) met) k ≡ Some slot
        → IsSlotOf (program_of m) c i slot
    each_slot k i slot at there =
        let is = is_entered k i slot at there in
        record {
          class = ap (λ (s : Slot). s.class) is;
          default = ap (λ (s : Slot). s.default) is;
          entry = ap (λ (s : Slot). s.entry) is;
        }

-- the first instances are those of the outputs
get_first : {A : Type 0} (xs ys : List A) (k : ℕ) (x : A) → slice_get xs k ≡ Some x → slice_get (xs ++ ys) k ≡ Some x
get_first [] ys k x h = absurd (none≢some x h)
get_first (y ∷ xs) ys zero x h = h
get_first (y ∷ xs) ys (suc k) x h = get_first xs ys k x h

pub output_at : (m : Module) (k n : ℕ) → slice_get (formals_of dir.Out m) k ≡ Some n → slice_get (instances_of m) k ≡ Some (formal_instance n)
output_at m k n h = get_first (map formal_instance (formals_of dir.Out m)) _ k (formal_instance n) (get_map formal_instance (formals_of dir.Out m) k n h)

outputs_read : (instances : List Instance) (k : ℕ) (outputs : List ℕ) (stores : List Store) → length stores ≡ length outputs
    → ((j n : ℕ) → slice_get outputs j ≡ Some n → slice_get instances (k + j) ≡ Some (formal_instance n))
    → map (met_by instances) (outputs_met k stores) ≡ map Some (met_outputs outputs stores)
outputs_read instances k [] [] long stands = refl
outputs_read instances k [] (s ∷ ss) long stands = absurd (omega (arith, long))
outputs_read instances k (n ∷ ns) [] long stands = absurd (omega (arith, long))
outputs_read instances k (n ∷ ns) (s ∷ ss) long stands =
    let none : k + 0 ≡ k = omega arith in
    let here : slice_get instances k ≡ Some (formal_instance n) = subst (λ j. slice_get instances j ≡ Some (formal_instance n)) none (stands 0 n refl) in
    ap₂ (λ (x : Option Passed) (xs : List (Option Passed)). x ∷ xs)
    (ap (option_map (λ i. record { instance = i; store = Some s })) here)
    (outputs_read instances (k + 1) ns ss (omega (arith, long)) later_ones)
  where
    later_ones : (j o : ℕ) → slice_get ns j ≡ Some o → slice_get instances ((k + 1) + j) ≡ Some (formal_instance o)
    later_ones j o h = let next : k + suc j ≡ (k + 1) + j = omega arith in subst (λ q. slice_get instances q ≡ Some (formal_instance o)) next (stands (suc j) o h)

-- the outputs come first among what is met
pub outputs_are_met : (m : Module) (stores : List Store) → length stores ≡ length (formals_of dir.Out m)
    → map (met_by (instances_of m)) (outputs_met 0 stores) ≡ map Some (met_outputs (formals_of dir.Out m) stores)
outputs_are_met m stores long =
    outputs_read (instances_of m) 0 (formals_of dir.Out m) stores long
    (λ j n h. let none : j ≡ 0 + j = omega arith in subst (λ q. slice_get (instances_of m) q ≡ Some (formal_instance n)) none (output_at m j n h))

map-append : {A B : Type 0} (f : A → B) (xs ys : List A) → map f (xs ++ ys) ≡ map f xs ++ map f ys
map-append f [] ys = refl
map-append f (x ∷ xs) ys = ap (λ zs. f x ∷ zs) (map-append f xs ys)

pub map_both : {A B C : Type 0} (f : B → C) (g : A → B) (xs : List A) → map (λ x. f (g x)) xs ≡ map f (map g xs)
map_both f g [] = refl
map_both f g (x ∷ xs) = ap (λ ys. f (g x) ∷ ys) (map_both f g xs)

-- the outputs and then what the walk comes past are what the step meets
pub lists_met : (m : Module) (c : Configuration) (first all : List Met) → first ≡ outputs_met 0 c.outputs
    → map (met_by (instances_of m)) all ≡ map (met_by (instances_of m)) first ++ map Some (met_at (layout_of (program_of m)) c.place)
    → length c.outputs ≡ length (formals_of dir.Out m)
    → map (met_by (instances_of m)) all ≡ map Some (step_met (program_of m) c)
lists_met m c first all outputs walked long =
    let rest = met_at (layout_of (program_of m)) c.place in
    walked ∙ ap (λ xs. map (met_by (instances_of m)) xs ++ map Some rest) outputs
    ∙ ap (λ xs. xs ++ map Some rest) (outputs_are_met m c.outputs long)
    ∙ sym (map-append Some (met_outputs (formals_of dir.Out m) c.outputs) rest)

-- what rounds begin with
pub prepared : (m : Module) → IsNumbered m → (c : Configuration) (row : List Value) (met : List Met) (slots : List Slot) (env : Env) (most count : ℕ)
    → slots ≡ entered (map (blank_slot m) (instances_of m)) met
    → map (met_by (instances_of m)) met ≡ map Some (step_met (program_of m) c)
    → env.inputs.items ≡ row → count ≡ length (map (blank_slot m) (instances_of m))
    → env.now.items ≡ replicate count know.Unknown → env.later.items ≡ replicate count later.Unknown → most ≡ 4 * length met
    → IsPrepared m c row slots env most
prepared m numbered c row met slots env most count slots_are met_are inputs all now_is later_is enough =
    let as_many : count ≡ length (instances_of m) = all ∙ length-map (instances_of m) (blank_slot m) in
    let lists = nothing_is_round_zero m numbered c row in
    let long : length met ≡ length (step_met (program_of m) c) =
    sym (length-map met (met_by (instances_of m))) ∙ ap length met_are ∙ length-map (step_met (program_of m) c) Some in
    record {
      begins = record {
        numbered = numbered;
        place = refl;
        slots_are = subst (AreSlotsOf (program_of m) c) (sym slots_are) (are_slots m numbered c met met_are);
        numbers = have_numbers (program_of m) met (step_met (program_of m) c) met_are;
        inputs = inputs;
        zero = record {
          now = λ k i at. ap (λ xs. slice_get xs k) (now_is ∙ ap (λ n. replicate n know.Unknown) as_many) ∙ lists.now k i at;
          later = λ k i at. ap (λ xs. slice_get xs k) (later_is ∙ ap (λ n. replicate n later.Unknown) as_many) ∙ lists.later k i at;
        };
      };
      enough = omega (arith, enough, long);
    }
