-- Where a system is definite, its next valuation is that of the program's macro step.
use Rattle.std.proofs.Common.{◌≡◌, ℕ, zero, suc, ◌+◌, ◌<◌, ◌≤◌, Bool, true, false, not, ◌&&◌, ◌||◌, List, [], ◌∷◌, ◌++◌, map, length, Option, Some, None, refl, sym, ap, ap₂, subst, ◌∙◌, ◌⊎◌, inl, inr, arith}
use Rattle.std.specs.Prelude.{◌==◌, if◌then◌else◌, slice_get, slice_index_or, nat_lt}
use Rattle.std.specs.Option.{option_map, option_map_or}
use Rattle.std.specs.List.{AllByRecursion, range_with_len, list_any}
use lib.ListN.{length-map, length-append}
use Rattle.std.proofs.lemmas.Bool.{false≢true, and_parts, eqb-true, lt-ltb}
use Rattle.std.proofs.lemmas.Bool.Decides.{nat_tests}
use Rattle.std.proofs.lemmas.List.{map-append, append-nil}
use Rattle.std.proofs.lemmas.List.Folds.{list_any-append}
use Rattle.std.proofs.lemmas.Option.{get_or_from_slice_get, slice_get_within}
use Rattle.std.proofs.lemmas.List.FromFn.{length-map-range_with_len}
use Rattle.qz_values.specs.declared.Value.{Value}
use Rattle.qz_values.specs.declared.Know.{Know}
use Rattle.qz_values.specs.declared.Know.TheVariants.{Unknown, Known, Clash}
use Rattle.qz_nets.specs.declared.net.NetId.{NetId}
use Rattle.qz_syntax.specs.declared.declarations.Dir.TheVariants as dir
use Rattle.qz_syntax.specs.declared.expressions.Var.{Var}
use Rattle.qz_syntax.specs.declared.expressions.Var.TheVariants as var
use Rattle.qz_syntax.specs.declared.modules.Module.{Module}
use Rattle.qz_syntax.specs.declared.modules.Whole.{Whole}
use Rattle.qz_syntax.specs.declared.places.Later.{Later}
use Rattle.qz_syntax.specs.declared.places.Later.TheVariants as later
use Rattle.qz_syntax.specs.declared.places.Mark.TheVariants as mark
use Rattle.qz_syntax.specs.declared.places.Store.{Store}
use Rattle.qz_syntax.specs.declared.places.Residual.{Residual}
use Rattle.qz_syntax.specs.declared.places.Place.{Place}
use Rattle.qz_syntax.specs.declared.places.Place.TheVariants as place
use Rattle.qz_syntax.specs.Numbers.{contains}
use Rattle.qz_syntax.specs.WellFormed.{IsWellFormed}
use Rattle.qz_meaning.specs.Instances.{Instance, is_same_instance, formal_instance}
use Rattle.qz_meaning.specs.Scenes.{root, store_of as store_by, store_from}
use Rattle.qz_meaning.specs.Behaviors.{Behavior}
use Rattle.qz_meaning.specs.Layouts.{Met, bare}
use Rattle.qz_meaning.specs.Calls.{Answers}
use Rattle.qz_meaning.specs.Walks.{behavior}
use Rattle.qz_meaning.specs.Landings.{Deed, Spot, landing}
use Rattle.qz_meaning.specs.Carrying.{places_in, is_local, kept_by}
use Rattle.qz_meaning.specs.Residing.{no_calls, whole_layout}
use Rattle.qz_meaning.specs.Agreement.{GoesAsTold, AccountsAgree}
use Rattle.qz_meaning.specs.Programs.{Program, formals_of, instances_of, program_of, times}
use Rattle.qz_meaning.specs.Configurations.{Configuration, layout_of}
use Rattle.qz_meaning.specs.Settling.{Environment, passing, body_under, met_at, met_outputs, step_met}
use Rattle.qz_meaning.specs.Rounds.{AgreeAt, AgreeWhereMet}
use Rattle.qz_meaning.specs.MacroSteps.{HasInputs, rest_or_end, next_place, next_configuration}
use Rattle.qz_meaning.specs.MeetingLaws.{is_met, IsMetAlone}
use Rattle.qz_meaning.specs.Valuations.{Valuation as OfProgram, IsPermitted, IsPermittedPlace, is_started, rests_at as rests_there, stores_at_place, store_among, stores_in_order}
use Rattle.qz_meaning.proofs.Lists.{none≢some, some_same}
use Rattle.qz_meaning.proofs.Orderly.{instance_self, own_numbers, met_alone}
use Rattle.qz_meaning.proofs.Finding.{met_found}
use Rattle.qz_values.specs.Knowledge.{knows_yes}
use Rattle.qz_meaning.proofs.OneRun.{permitted_is_valuation}
use Rattle.qz_meaning.proofs.OneStep.{next_same}
use Rattle.qz_meaning.proofs.TellingAll.{residuals_tell}
use Rattle.qz_meaning.proofs.CarriedMet.{or_right, Carried, Carries, carries_idle, walks_carry}
use Rattle.qz_control.specs.Leaves.{known_bit}
use Rattle.qz_control.specs.Circuits.{View, Views}
use Rattle.qz_control.specs.Guarded.{chosen, when}
use Rattle.qz_control.specs.Follows.{IsPlain}
use Rattle.qz_moves.specs.declared.spots.NetSpot.{NetSpot}
use Rattle.qz_moves.specs.Appended.{read_spot, read_spots}
use Rattle.qz_system.specs.declared.parts.Cell.{Cell}
use Rattle.qz_system.specs.declared.parts.Inst.{Inst}
use Rattle.qz_system.specs.declared.parts.SystemParts.{SystemParts}
use Rattle.qz_system.specs.declared.valuation.Valuation.{Valuation}
use Rattle.qz_system.specs.Parts.{AreParts}
use Rattle.qz_system.specs.Valuations.{no_store}
use Rattle.qz_system.specs.Rounds.{HaveTypes}
use Rattle.qz_system.specs.Nexts.{is_known, rests_next, instance_of, first_carry, source, as_bits, next_store, IsNext}
use Rattle.qz_closing.specs.ProgramParts.{cell_number, cell_of, cells_of, inst_of}
use Rattle.qz_closing.specs.Encoding.{stored_bits, EncodesPlace, Encodes}
use Rattle.qz_closing.specs.Closes.{KnowsAlike, TellsAlike}
use Rattle.qz_closing.proofs.Getting.{get_left, get_right, get_mapped, mapped_cases, get_range, lists_same, got_within}
use Rattle.qz_closing.proofs.ProgramCells.{cells_long, IsOutputCell, IsLocalCell, cell_cases}
use Rattle.qz_closing.proofs.Permitted.{outputs_long_too, held_long}
use Rattle.step_laws.proofs.CallFree.{walks_alone}
use Rattle.qz_single.specs.Numbering.{instance_place}
use Rattle.qz_single.specs.Compiled.{walk_in}
use Rattle.qz_single.specs.Made.{IsSystemOf}
use Rattle.qz_interp.proofs.Distinct.{instances_distinct}
use Rattle.closing_laws.proofs.Places.{place_at}
use Rattle.closing_laws.proofs.Numbered.{HasPlace, met_placed}
use Rattle.closing_laws.proofs.Instanced.{IsOutputInstance, IsLocalInstance, instance_cases, place_number}
use Rattle.closing_laws.proofs.Agreeing.{scene_at, scene_inputs}
use Rattle.closing_laws.proofs.StepVerdicts.{has_shape, away_here, rests_here}
use Rattle.closing_laws.proofs.RoundsSame.{instance_here}
use Rattle.closing_laws.proofs.Plain.{whole_scene, plain_leaves, plain_view, scene_same, formal_same, plain_views, scene_plain}
use Rattle.closing_laws.proofs.SpotLists.{chosen_both, next_places, next_carry, kept_is_met, met_is_found}

known_value : (k : Know) → is_known k ≡ true → (x : Value) × (k ≡ Known x)
known_value Unknown h = absurd (false≢true h)
known_value (Known x) h = (x, refl)
known_value Clash h = absurd (false≢true h)

map_same : {A B : Type 0} (f g : A → B) (xs : List A) → ((x : A) → f x ≡ g x) → map f xs ≡ map g xs
map_same f g [] h = refl
map_same f g (x ∷ xs) h = ap₂ (λ (y : _) (ys : List _). y ∷ ys) (h x) (map_same f g xs h)

-- the first instance of a cell of which there is one alone
first_instance : (cell n : ℕ) (xs : List Inst) (k : ℕ) (one : Inst) → slice_get xs k ≡ Some one → one.cell ≡ cell
    → ((j : ℕ) (other : Inst) → slice_get xs j ≡ Some other → other.cell ≡ cell → j ≡ k) → instance_of cell n xs ≡ Some (n + k)
first_instance cell n [] k one e is only = absurd (none≢some one e)
first_instance cell n (x ∷ xs) k one e is only = by k (x.cell == cell) refl e only (λ i f h. first_instance cell (n + 1) xs i one f is h) where
  by : (k : ℕ) (t : Bool) → (x.cell == cell) ≡ t → slice_get (x ∷ xs) k ≡ Some one → ((j : ℕ) (other : Inst) → slice_get (x ∷ xs) j ≡ Some other → other.cell ≡ cell → j ≡ k)
      → ((i : ℕ) → slice_get xs i ≡ Some one → ((j : ℕ) (other : Inst) → slice_get xs j ≡ Some other → other.cell ≡ cell → j ≡ i) → instance_of cell (n + 1) xs ≡ Some ((n + 1) + i))
      → (if t then Some n else instance_of cell (n + 1) xs) ≡ Some (n + k)
  by k true same f only later = ap Some (let zero_place = only 0 x refl (eqb-true _ _ same) in omega (arith, zero_place))
  by zero false same f only later =
      absurd (false≢true (sym same ∙ subst (λ (i : ℕ). (i == cell) ≡ true) (sym (ap (λ (i : Inst). i.cell) (some_same _ _ f) ∙ is)) (let h : (cell == cell) ≡ true = grind arith in h)))
  by (suc i) false same f only later =
      later i f (λ j other g h. let wrong = only (suc j) other g h in omega (arith, wrong)) ∙ ap Some (let e : (n + 1) + i ≡ n + suc i = omega arith in e)

met_more : (i : Instance) (before met : List Met) → is_met i met ≡ true → is_met i (before ++ met) ≡ true
met_more i before met h = list_any-append (λ (one : Met). is_same_instance one.instance i) before met ∙ or_right _ _ h

is_the_local : (i : Instance) (n : ℕ) → is_local i.variable n ≡ true → i.variable ≡ var.Local n
is_the_local i n h = by i.variable h where
  by : (x : Var) → is_local x n ≡ true → x ≡ var.Local n
  by (var.Formal k) e = absurd (false≢true e)
  by (var.Local k) e = ap (λ (j : ℕ). var.Local j) (eqb-true k n e)
  by (var.Bound k) e = absurd (false≢true e)

module _ (w : Whole) (parts : SystemParts) (sys : IsSystemOf w parts) (right : AreParts parts) (well : IsWellFormed [] w.module) (texts : length w.names.places ≡ length w.module.labels)
    (at : OfProgram) (permitted : IsPermitted (program_of w.module) at) (v : Valuation) (e : Encodes (program_of w.module) at v)
    (env : Environment) (inputs : HasInputs (program_of w.module) env at.inputs) (knows : List Know) (delayed : List Later) (typed : HaveTypes parts knows)
    (alike : KnowsAlike (program_of w.module) at.configuration env knows) (told : TellsAlike (program_of w.module) at.configuration env delayed)
    (next : Valuation) (is : IsNext parts v knows delayed next) where
  abbrev p : Program
  p = program_of w.module

  abbrev m : Module
  m = w.module

  abbrev c : Configuration
  c = at.configuration

  abbrev O : List ℕ
  O = formals_of dir.Out m

  abbrev know : ℕ → Know
  know = is.definite.last.stays.know

  known_at : (k : ℕ) (i : Instance) → slice_get (instances_of m) k ≡ Some i → (x : Value) × (slice_index_or knows k Unknown ≡ Known x)
  known_at k i found =
      let here = is.definite.last.stays.are_settled.values k (inst_of w i) (instance_here w parts sys well texts at permitted v e k i found) in
      known_value (slice_index_or knows k Unknown) (is.definite.known k Unknown (slice_get_within knows k _ here))

  -- what the nets see, every instance among it
  abbrev env₂ : Environment
  env₂ = record { now = whole_scene w parts sys right well texts at permitted v e knows; later = env.later }

  abbrev V : View
  V = plain_view w parts sys right well texts at permitted v e knows know

  sees : Views V sys.compiled.circuit
  sees = plain_views w parts sys right well texts at permitted v e knows know is.definite.last.stays.reads

  plain : IsPlain m env₂.now
  plain = scene_plain w parts sys right well texts at permitted v e knows typed known_at

  abbrev answers : Answers
  answers = (plain_leaves w parts sys right well texts at permitted v e knows).answers

  -- what is known of an instance with a number
  now_at : (k : ℕ) (i : Instance) → slice_get (instances_of m) k ≡ Some i → env₂.now i ≡ slice_index_or knows k Unknown
  now_at k i found = scene_same w parts sys right well texts at permitted v e knows k i found ∙ scene_at w parts sys well at permitted v e knows k i found

  agree_each : (met : List Met) → AllByRecursion (IsMetAlone p c at.inputs) met → AllByRecursion (λ (one : Met). HasPlace m well.numbered one.instance) met
      → AllByRecursion (λ (one : Met). AgreeAt one env₂ env) met
  agree_each [] alone placed = tt
  agree_each (one ∷ met) alone placed = (
    record {
      now =
          let it = placed.0 in
          now_at it.number one.instance it.at
          ∙ get_or_from_slice_get knows it.number (env.now one.instance) Unknown (alike it.number one.instance one it.at alone.0.found);
      later = refl;
    },
    agree_each met alone.1 placed.1,
  )

  agree : AgreeWhereMet p c env₂ env
  agree = agree_each (step_met p c) (met_alone p (own_numbers m well.numbered) c at.inputs) (met_placed m well.numbered c)

  inputs₂ : HasInputs p env₂ at.inputs
  inputs₂ =
      map_same (λ n. env₂.now (formal_instance n)) _ p.inputs (λ n. formal_same w parts sys right well texts at permitted v e knows n)
      ∙ scene_inputs w parts sys well at permitted v e knows

  -- the configuration that comes next is that under the program's values
  next_is : next_configuration p c env₂ ≡ next_configuration p c env
  next_is = next_same m well c at.inputs (permitted_is_valuation p at permitted).configuration env₂ env inputs₂ inputs agree

  abbrev W : Behavior Deed (List Spot)
  W = behavior env₂.now landing (no_calls landing) m.body

  alone : walk_in m V answers ≡ W
  alone = walks_alone m well env₂.now answers

  -- the spots of the step
  abbrev spots_from : Place → List Spot
  spots_from place.NotStarted = W.rest root mark.Zero
  spots_from (place.Rest r) = W.after root r
  spots_from place.Ended = []

  abbrev entering : List NetSpot
  entering = sys.compiled.entering.items

  abbrev moving : List NetSpot
  moving = sys.compiled.moving.items

  abbrev T : List Spot
  T = chosen (read_spots V (entering ++ moving))

  both_lists : T ≡ chosen (read_spots V entering) ++ chosen (read_spots V moving)
  both_lists = ap chosen (map-append (read_spot V) entering moving) ∙ chosen_both (read_spots V entering) (read_spots V moving)

  entered : (started : Bool) → v.started ≡ started → chosen (read_spots V entering) ≡ when (not started) (W.rest root mark.Zero)
  entered started same =
      sys.is_compiled.spots.enters V answers started sees plain (ap known_bit same)
      ∙ ap (λ (b : Behavior Deed (List Spot)). when (not started) (b.rest root mark.Zero)) alone

  none_moving : ((n : ℕ) → rests_there c.place n ≡ false) → chosen (read_spots V moving) ≡ []
  none_moving nowhere = sys.is_compiled.spots.leaves V sees plain (away_here w parts sys well texts at permitted v e nowhere)

  T_from : (where_at : Place) → c.place ≡ where_at → IsPermittedPlace p c where_at → T ≡ spots_from where_at
  T_from place.NotStarted there fine =
      both_lists
      ∙ ap₂ (λ (x y : List Spot). x ++ y) (entered false (e.place.started ∙ ap is_started there)) (none_moving (λ n. ap (λ (it : Place). rests_there it n) there))
      ∙ append-nil (W.rest root mark.Zero)
  T_from (place.Rest r) there fine =
      both_lists
      ∙ ap₂ (λ (x y : List Spot). x ++ y) (entered true (e.place.started ∙ ap is_started there))
      (sys.is_compiled.spots.moves V answers r sees plain (rests_here w parts sys well texts at permitted v e r there (and_parts _ _ fine).0)
      ∙ ap (λ (b : Behavior Deed (List Spot)). b.after root r) alone)
  T_from place.Ended there fine =
      both_lists
      ∙ ap₂ (λ (x y : List Spot). x ++ y) (entered true (e.place.started ∙ ap is_started there)) (none_moving (λ n. ap (λ (it : Place). rests_there it n) there))

  T_is : T ≡ spots_from c.place
  T_is = T_from c.place refl permitted.place

  accounts : AccountsAgree (passing p env₂) (body_under p env₂) W (whole_layout m.body)
  accounts = residuals_tell (passing p env₂) m.body

  -- what the spots say of the next place
  record IsTold (after : Place) (spots : List Spot) : Type 0 where
    begun : is_started after ≡ true
    places : (n : ℕ) → rests_there after n ≡ contains (places_in spots) n
    stores : (n : ℕ) → store_among (stores_at_place p after) n ≡ option_map (store_from (passing p env₂)) (kept_by spots n)

  goes_told : (o : Option Residual) (spots : List Spot) → GoesAsTold (passing p env₂) (layout_of p) o spots → IsTold (rest_or_end o) spots
  goes_told None spots h = record {
    begun = refl;
    places = λ n. ap (λ (l : List Spot). contains (places_in l) n) (sym h);
    stores = λ n. ap (λ (l : List Spot). option_map (store_from (passing p env₂)) (kept_by l n)) (sym h);
  }
  goes_told (Some r) spots h = record { begun = refl; places = λ n. ap (λ (l : List ℕ). contains l n) h.places; stores = h.stores }

  told_from : (where_at : Place) → IsPermittedPlace p c where_at → IsTold (next_place (body_under p env₂) where_at) (spots_from where_at)
  told_from place.NotStarted fine = goes_told _ _ (accounts.rest root mark.Zero)
  told_from (place.Rest r) fine = goes_told _ _ (accounts.after root r (and_parts _ _ fine).0)
  told_from place.Ended fine = goes_told None [] refl

  abbrev after : Place
  after = (next_configuration p c env₂).place

  next_told : IsTold after T
  next_told = subst (IsTold after) (sym T_is) (told_from c.place permitted.place)

  carries : Carries W (layout_of p)
  carries = walks_carry env₂.now (no_calls landing) (λ number. bare) (λ number arguments. carries_idle bare) m.body

  carried_from : (where_at : Place) → IsPermittedPlace p c where_at → Carried (spots_from where_at) (met_at (layout_of p) where_at)
  carried_from place.NotStarted fine = carries.rest root mark.Zero
  carried_from (place.Rest r) fine = carries.after root r (and_parts _ _ fine).0
  carried_from place.Ended fine = tt

  carried : Carried T (met_at (layout_of p) c.place)
  carried = subst (λ (l : List Spot). Carried l (met_at (layout_of p) c.place)) (sym T_is) (carried_from c.place permitted.place)

  places_are : p.places ≡ range_with_len 0 (length m.labels)
  places_are = well.numbered.places

  places_here : next.places.items ≡ map (rests_there after) p.places
  places_here =
      is.next_places
      ∙ ap (λ n. map (λ place. rests_next parts know place) (range_with_len 0 n)) (ap length sys.is_made.named.places ∙ texts)
      ∙ map_same (λ place. rests_next parts know place) (rests_there after) (range_with_len 0 (length m.labels)) (λ n.
      ap (λ (l : List (ℕ × NetId)). list_any (λ (one : ℕ × NetId). (one.0 == n) && knows_yes (know one.1.0)) l) sys.is_made.nexts
      ∙ next_places V n (entering ++ moving) ∙ sym (next_told.places n))
      ∙ ap (map (rests_there after)) (sym places_are)

  -- the number of an instance that is met, and what is known and delayed there
  record IsNumberOf (i : Instance) : Type 0 where
    number : ℕ
    place_is : instance_place m i ≡ number
    now : slice_index_or knows number Unknown ≡ env₂.now i
    later : slice_index_or delayed number later.Unknown ≡ env.later i

  number_of : (i : Instance) → is_met i (step_met p c) ≡ true → IsNumberOf i
  number_of i met =
      let one = met_is_found (step_met p c) i met in
      let placed = met_found (λ (it : Met). HasPlace m well.numbered it.instance) (step_met p c) i one.0 (met_placed m well.numbered c) one.1 in
      let place : HasPlace m well.numbered i = subst (HasPlace m well.numbered) placed.1 placed.0 in
      record {
        number = place.number;
        place_is = place_at (instances_of m) (instances_distinct m well.numbered) place.number i place.at;
        now = sym (now_at place.number i place.at);
        later = get_or_from_slice_get delayed place.number (env.later i) later.Unknown (told place.number i one.0 place.at one.1);
      }

  abbrev store_at : Cell → ℕ → Bool × ℕ
  store_at cell i = as_bits (store_by cell.class cell.ty (slice_index_or knows i Unknown) (slice_index_or delayed i later.Unknown))

  -- a local's next store
  local_store : (n : ℕ) (o : Option Instance) → kept_by T n ≡ o
      → option_map_or (store_at (cell_of w (var.Local n))) (option_map (instance_place m) o) no_store ≡ stored_bits (option_map (store_from (passing p env₂)) o)
  local_store n None found = refl
  local_store n (Some i) found =
      let kept = kept_is_met T (met_at (layout_of p) c.place) carried n i found in
      let one = number_of i (met_more i (met_outputs p.outputs c.outputs) (met_at (layout_of p) c.place) kept.0) in
      ap (store_at (cell_of w (var.Local n))) one.place_is
      ∙ ap₂ (λ (k : Know) (l : Later). as_bits (store_by (p.class_of (var.Local n)) (p.type_of (var.Local n)) k l)) one.now one.later
      ∙ ap (λ (x : Var). as_bits (store_by (p.class_of x) (p.type_of x) (env₂.now i) (env.later i))) (sym (is_the_local i n kept.1))

  -- an output is met under its place
  output_met : (k n : ℕ) → slice_get O k ≡ Some n → is_met (formal_instance n) (step_met p c) ≡ true
  output_met k n found = met_first (formal_instance n) (met_outputs p.outputs c.outputs) (met_at (layout_of p) c.place) (there O c.outputs (permitted_is_valuation p at permitted).configuration.outputs k found) where
    met_first : (i : Instance) (xs ys : List Met) → is_met i xs ≡ true → is_met i (xs ++ ys) ≡ true
    met_first i xs ys h = list_any-append (λ (one : Met). is_same_instance one.instance i) xs ys ∙ or_left (is_met i xs) (is_met i ys) h where
      or_left : (a b : Bool) → a ≡ true → (a || b) ≡ true
      or_left true b h = refl
      or_left false b h = absurd (false≢true h)

    there : (outputs : List ℕ) (stores : List Store) → length stores ≡ length outputs → (k : ℕ) → slice_get outputs k ≡ Some n → is_met (formal_instance n) (met_outputs outputs stores) ≡ true
    there [] stores long k f = absurd (none≢some n f)
    there (x ∷ outputs) [] long k f = absurd (omega (arith, long))
    there (x ∷ outputs) (s ∷ stores) long zero f =
        ap (λ t. t || is_met (formal_instance n) (met_outputs outputs stores))
        (subst (λ i. is_same_instance (formal_instance x) (formal_instance i) ≡ true) (some_same _ _ f) (instance_self (formal_instance x)))
    there (x ∷ outputs) (s ∷ stores) long (suc k) f = or_right (is_same_instance (formal_instance x) (formal_instance n)) _ (there outputs stores (omega (arith, long)) k f)

  output_source : (k n : ℕ) → slice_get O k ≡ Some n → source parts know k ≡ Some k
  output_source k n found =
      ap (λ t. if t then instance_of k 0 parts.instances else first_carry know k parts.carries) small
      ∙ first_instance k 0 parts.instances k (inst_of w (formal_instance n)) (instance_here w parts sys well texts at permitted v e k (formal_instance n) here) (place_number O k n once found) only
      ∙ ap Some (let z : 0 + k ≡ k = omega arith in z) where
        here : slice_get (instances_of m) k ≡ Some (formal_instance n)
        here = get_left (map formal_instance O) _ k (formal_instance n) (get_mapped formal_instance O k n found)

        once : times n O ≤ 1
        once = let most = (own_numbers m well.numbered).formals n in omega (arith, most)

        small : nat_lt k (length parts.outputs) ≡ true
        small =
            subst (λ i. nat_lt k i ≡ true) (sym (outputs_long_too w parts well texts (has_shape w parts sys well texts at permitted v e)))
            (lt-ltb k (length O) (slice_get_within O k n found))

        only : (j : ℕ) (other : Inst) → slice_get parts.instances j ≡ Some other → other.cell ≡ k → j ≡ k
        only j other f same = by (mapped_cases (inst_of w) (instances_of m) j other (ap (λ (l : List Inst). slice_get l j) (sym sys.is_made.named.instances) ∙ f)) where
          of_case : (i : Instance) → other ≡ inst_of w i → IsOutputInstance m j i ⊎ IsLocalInstance m i → j ≡ k
          of_case i it (inl o) =
              let once_too : times o.number O ≤ 1 = let most = (own_numbers m well.numbered).formals o.number in omega (arith, most) in
              sym (place_number O j o.number once_too o.at) ∙ ap (λ (x : Instance). cell_number m x.variable) (sym o.is) ∙ ap (λ (x : Inst). x.cell) (sym it) ∙ same
          of_case i it (inr l) =
              let at_cell : length O + l.number ≡ k = ap (λ (x : Instance). cell_number m x.variable) (sym l.is) ∙ ap (λ (x : Inst). x.cell) (sym it) ∙ same in
              let less = slice_get_within O k n found in
              absurd (omega (arith, at_cell, less))

          by : (i : Instance) × (slice_get (instances_of m) j ≡ Some i) × (other ≡ inst_of w i) → j ≡ k
          by (i, g, it) = of_case i it (instance_cases m j i g)

  abbrev outputs_next : List (Option Store)
  outputs_next = map (λ (s : Store). Some s) (map (λ n. store_from (passing p env₂) (formal_instance n)) O)

  outputs_next_long : length outputs_next ≡ length O
  outputs_next_long =
      length-map (map (λ n. store_from (passing p env₂) (formal_instance n)) O) (λ (s : Store). Some s) ∙ length-map O (λ n. store_from (passing p env₂) (formal_instance n))

  abbrev goal : List (Bool × ℕ)
  goal = map stored_bits (stores_in_order p (next_configuration p c env₂))

  store_is : (k : ℕ) (cell : Cell) → slice_get parts.cells k ≡ Some cell → IsOutputCell w k cell ⊎ IsLocalCell w k cell
      → slice_get goal k ≡ Some (next_store parts know knows delayed k cell)
  store_is k cell found (inl o) =
      let one = number_of (formal_instance o.number) (output_met k o.number o.found) in
      let same : one.number ≡ k =
      sym one.place_is ∙ place_at (instances_of m) (instances_distinct m well.numbered) k (formal_instance o.number)
      (get_left (map formal_instance O) _ k (formal_instance o.number) (get_mapped formal_instance O k o.number o.found)) in
      get_mapped stored_bits (stores_in_order p (next_configuration p c env₂)) k (Some (store_from (passing p env₂) (formal_instance o.number)))
      (get_left outputs_next _ k _ (get_mapped (λ (s : Store). Some s) (map (λ n. store_from (passing p env₂) (formal_instance n)) O) k _
      (get_mapped (λ n. store_from (passing p env₂) (formal_instance n)) O k o.number o.found)))
      ∙ ap Some (sym (
      ap (λ (x : Option ℕ). option_map_or (store_at cell) x no_store) (output_source k o.number o.found)
      ∙ ap (λ (x : Cell). store_at x k) o.is
      ∙ ap (store_at (cell_of w (var.Formal o.number))) (sym same)
      ∙ ap₂ (λ (i : Know) (l : Later). as_bits (store_by (p.class_of (var.Formal o.number)) (p.type_of (var.Formal o.number)) i l)) one.now one.later))
  store_is k cell found (inr l) =
      let n = l.number in
      let past : nat_lt (length O + n) (length parts.outputs) ≡ false =
      let long = outputs_long_too w parts well texts (has_shape w parts sys well texts at permitted v e) in grind (arith, nat_tests, long) in
      let from : source parts know k ≡ option_map (instance_place m) (kept_by T n) =
      ap (source parts know) l.at
      ∙ ap (λ t. if t then instance_of (length O + n) 0 parts.instances else first_carry know (length O + n) parts.carries) past
      ∙ ap (first_carry know (length O + n)) sys.is_made.carries
      ∙ next_carry V m n (entering ++ moving) in
      ap (λ i. slice_get goal i) l.at
      ∙ get_mapped stored_bits (stores_in_order p (next_configuration p c env₂)) (length O + n) (store_among (stores_at_place p after) n)
      (subst (λ i. slice_get (stores_in_order p (next_configuration p c env₂)) (i + n) ≡ Some (store_among (stores_at_place p after) n)) outputs_next_long
      (get_right outputs_next (map (store_among (stores_at_place p after)) (range_with_len 0 (length m.decls))) n
      ∙ get_mapped (store_among (stores_at_place p after)) (range_with_len 0 (length m.decls)) n n
      (get_range 0 (length m.decls) n l.small ∙ ap Some (let z : 0 + n ≡ n = omega arith in z))))
      ∙ ap Some (ap stored_bits (next_told.stores n) ∙ sym (
      ap (λ (x : Option ℕ). option_map_or (store_at cell) x no_store) from
      ∙ ap (λ (x : Cell). option_map_or (store_at x) (option_map (instance_place m) (kept_by T n)) no_store) l.is
      ∙ local_store n (kept_by T n) refl))

  cells_are : parts.cells ≡ cells_of w
  cells_are = sys.is_made.named.cells

  stores_here : next.stores.items ≡ goal
  stores_here = lists_same next.stores.items goal long there where
    items_long : length next.stores.items ≡ length (cells_of w)
    items_long = held_long parts.cells next.stores.items is.fits_too.values_of_stores ∙ ap length cells_are

    long : length next.stores.items ≡ length goal
    long =
        items_long ∙ cells_long w
        ∙ sym (length-map (stores_in_order p (next_configuration p c env₂)) stored_bits
        ∙ length-append outputs_next (map (store_among (stores_at_place p after)) (range_with_len 0 (length m.decls)))
        ∙ ap₂ (λ i j. i + j) outputs_next_long (length-map-range_with_len (store_among (stores_at_place p after)) 0 (length m.decls)))

    there : (k : ℕ) (store : Bool × ℕ) → slice_get next.stores.items k ≡ Some store → slice_get goal k ≡ Some store
    there k store found =
        let less : k < length (cells_of w) = let one = slice_get_within next.stores.items k store found in let two = items_long in omega (arith, one, two) in
        let cell = got_within (cells_of w) k less in
        let here : slice_get parts.cells k ≡ Some cell.0 = ap (λ (l : List Cell). slice_get l k) cells_are ∙ cell.1 in
        store_is k cell.0 here (cell_cases w k cell.0 cell.1) ∙ sym (is.next_stores k cell.0 here) ∙ found

  pub next_encodes : EncodesPlace p (next_configuration p c env) next
  next_encodes = subst (λ (x : Configuration). EncodesPlace p x next) next_is record {
    started = is.is_started ∙ sym next_told.begun;
    places = places_here;
    stores = stores_here;
  }
