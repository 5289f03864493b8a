-- What the entries of a system say of the spots that are so.
use Rattle.std.proofs.Common.{◌≡◌, ℕ, ◌+◌, Bool, true, false, ◌&&◌, ◌||◌, List, [], ◌∷◌, ◌++◌, length, Option, Some, refl, ap, ap₂, subst, ◌∙◌, arith}
use Rattle.std.specs.Prelude.{◌==◌, if◌then◌else◌}
use Rattle.std.specs.Option.{option_map}
use Rattle.std.specs.List.{filter_map, list_any}
use Rattle.std.specs.List.{cons_option}
use Rattle.std.proofs.lemmas.Bool.{false≢true}
use Rattle.std.proofs.lemmas.Bool.Decides.{nat_tests}
use Rattle.qz_values.specs.Knowledge.{knows_yes}
use Rattle.qz_nets.specs.declared.net.NetId.{NetId}
use Rattle.qz_syntax.specs.declared.declarations.Dir.TheVariants as dir
use Rattle.qz_syntax.specs.declared.modules.Module.{Module}
use Rattle.qz_syntax.specs.declared.places.Mark.{Mark}
use Rattle.qz_syntax.specs.Numbers.{contains}
use Rattle.qz_meaning.specs.Instances.{Instance, is_same_instance, local_instance}
use Rattle.qz_meaning.specs.Layouts.{Met}
use Rattle.qz_meaning.specs.Landings.{Spot, At, Keeps, Enters, GoesOn, Stays}
use Rattle.qz_meaning.specs.Carrying.{places_in, is_local, kept_by}
use Rattle.qz_meaning.specs.Programs.{formals_of}
use Rattle.qz_meaning.specs.MeetingLaws.{is_met}
use Rattle.qz_meaning.specs.Settling.{met_as}
use Rattle.qz_meaning.proofs.Lists.{none≢some, some_same}
use Rattle.qz_meaning.proofs.CarriedMet.{Carried}
use Rattle.qz_control.specs.Circuits.{View, known}
use Rattle.qz_control.specs.Guarded.{Guarded, chosen}
use Rattle.qz_moves.specs.declared.spots.NetSpot.{NetSpot}
use Rattle.qz_moves.specs.declared.spots.Rest.{Rest}
use Rattle.qz_moves.specs.declared.spots.Rest.TheVariants as rest
use Rattle.qz_moves.specs.Appended.{spot_of, read_spots}
use Rattle.qz_system.specs.declared.parts.Carry.{Carry}
use Rattle.qz_system.specs.Nexts.{first_carry}
use Rattle.qz_single.specs.Numbering.{instance_place, next_at, next_of, carry_by, carry_of}

pub chosen_both : (xs ys : Guarded) → chosen (xs ++ ys) ≡ chosen xs ++ chosen ys
chosen_both [] ys = refl
chosen_both (one ∷ xs) ys = by (knows_yes one.1) (chosen_both xs ys) where
  by : (t : Bool) → chosen (xs ++ ys) ≡ chosen xs ++ chosen ys
      → (if t then one.0 ∷ chosen (xs ++ ys) else chosen (xs ++ ys)) ≡ (if t then one.0 ∷ chosen xs else chosen xs) ++ chosen ys
  by true e = ap (λ (l : List Spot). one.0 ∷ l) e
  by false e = e

module _ (v : View) where
  abbrev entry_is : ℕ → (ℕ × NetId) → Bool
  entry_is place one = (one.0 == place) && knows_yes (v.nets.know one.1.0)

  at_case : (place n : ℕ) (t : Bool) (more : List (ℕ × NetId)) (spots : List Spot) → list_any (entry_is place) more ≡ contains (places_in spots) place
      → (((n == place) && t) || list_any (entry_is place) more) ≡ contains (places_in (if t then At n ∷ spots else spots)) place
  at_case place n true more spots e = ap₂ (λ a b. a || b) (and_yes (n == place)) e where
    and_yes : (a : Bool) → (a && true) ≡ a
    and_yes true = refl
    and_yes false = refl
  at_case place n false more spots e = ap (λ a. a || list_any (entry_is place) more) (and_no (n == place)) ∙ e where
    and_no : (a : Bool) → (a && false) ≡ false
    and_no true = refl
    and_no false = refl

  keeps_case : (place : ℕ) (i : Instance) (t : Bool) (more : List (ℕ × NetId)) (spots : List Spot) → list_any (entry_is place) more ≡ contains (places_in spots) place
      → list_any (entry_is place) more ≡ contains (places_in (if t then Keeps i ∷ spots else spots)) place
  keeps_case place i true more spots e = e
  keeps_case place i false more spots e = e

  next_step : (place : ℕ) (when : NetId) (r : Rest) (more : List (ℕ × NetId)) (spots : List Spot) → list_any (entry_is place) more ≡ contains (places_in spots) place
      → list_any (entry_is place) (cons_option (next_at when r) more) ≡ contains (places_in (if knows_yes (known v when) then spot_of r ∷ spots else spots)) place
  next_step place when (rest.At n) more spots e = at_case place n (knows_yes (known v when)) more spots e
  next_step place when (rest.Keeps n mark) more spots e = keeps_case place (local_instance n mark) (knows_yes (known v when)) more spots e

  -- control rests next at the places of the spots that are so
  pub next_places : (place : ℕ) (spots : List NetSpot) → list_any (entry_is place) (filter_map next_of spots) ≡ contains (places_in (chosen (read_spots v spots))) place
  next_places place [] = refl
  next_places place (spot ∷ spots) = next_step place spot.when spot.rest (filter_map next_of spots) (chosen (read_spots v spots)) (next_places place spots)

  module _ (m : Module) where
    abbrev O : ℕ
    O = length (formals_of dir.Out m)

    same_cell : (k n : ℕ) → (O + k == O + n) ≡ (k == n)
    same_cell k n = grind (arith, nat_tests)

    keeps_carry : (n k : ℕ) (mark : Mark) (t : Bool) (other : Option ℕ) (spots : List Spot) → other ≡ option_map (instance_place m) (kept_by spots n)
        → (if (O + k == O + n) && t then Some (instance_place m (local_instance k mark)) else other)
        ≡ option_map (instance_place m) (kept_by (if t then Keeps (local_instance k mark) ∷ spots else spots) n)
    keeps_carry n k mark false other spots e = ap (λ b. if b then Some (instance_place m (local_instance k mark)) else other) (and_no (O + k == O + n)) ∙ e where
      and_no : (a : Bool) → (a && false) ≡ false
      and_no true = refl
      and_no false = refl
    keeps_carry n k mark true other spots e =
        ap (λ b. if b then Some (instance_place m (local_instance k mark)) else other) (and_yes (O + k == O + n) ∙ same_cell k n) ∙ by (k == n) where
          and_yes : (a : Bool) → (a && true) ≡ a
          and_yes true = refl
          and_yes false = refl

          by : (b : Bool) → (if b then Some (instance_place m (local_instance k mark)) else other)
              ≡ option_map (instance_place m) (if b then Some (local_instance k mark) else kept_by spots n)
          by true = refl
          by false = e

    at_carry : (n place : ℕ) (t : Bool) (other : Option ℕ) (spots : List Spot) → other ≡ option_map (instance_place m) (kept_by spots n)
        → other ≡ option_map (instance_place m) (kept_by (if t then At place ∷ spots else spots) n)
    at_carry n place true other spots e = e
    at_carry n place false other spots e = e

    carry_step : (n : ℕ) (when : NetId) (r : Rest) (more : List Carry) (spots : List Spot)
        → first_carry v.nets.know (O + n) more ≡ option_map (instance_place m) (kept_by spots n)
        → first_carry v.nets.know (O + n) (cons_option (carry_by m when r) more)
        ≡ option_map (instance_place m) (kept_by (if knows_yes (known v when) then spot_of r ∷ spots else spots) n)
    carry_step n when (rest.At place) more spots e = at_carry n place (knows_yes (known v when)) (first_carry v.nets.know (O + n) more) spots e
    carry_step n when (rest.Keeps k mark) more spots e =
        keeps_carry n k mark (knows_yes (known v when)) (first_carry v.nets.know (O + n) more) spots e

    -- a local's cell takes its store from the instance by which its scope is kept or entered
    pub next_carry : (n : ℕ) (spots : List NetSpot)
        → first_carry v.nets.know (O + n) (filter_map (carry_of m) spots) ≡ option_map (instance_place m) (kept_by (chosen (read_spots v spots)) n)
    next_carry n [] = refl
    next_carry n (spot ∷ spots) = carry_step n spot.when spot.rest (filter_map (carry_of m) spots) (chosen (read_spots v spots)) (next_carry n spots)

-- an instance by which a scope is kept is one that is met, and of the local
pub kept_is_met : (spots : List Spot) (met : List Met) → Carried spots met → (n : ℕ) (i : Instance) → kept_by spots n ≡ Some i
    → (is_met i met ≡ true) × (is_local i.variable n ≡ true)
kept_is_met [] met h n i e = absurd (none≢some i e)
kept_is_met (At place ∷ spots) met h n i e = kept_is_met spots met h.1 n i e
kept_is_met (Keeps j ∷ spots) met h n i e = by (is_local j.variable n) refl e (λ k. kept_is_met spots met h.1 n i k) where
  by : (b : Bool) → is_local j.variable n ≡ b → (if b then Some j else kept_by spots n) ≡ Some i
      → (kept_by spots n ≡ Some i → (is_met i met ≡ true) × (is_local i.variable n ≡ true)) → (is_met i met ≡ true) × (is_local i.variable n ≡ true)
  by true own k later = subst (λ (it : Instance). (is_met it met ≡ true) × (is_local it.variable n ≡ true)) (some_same j i k) (h.0, own)
  by false own k later = later k
kept_is_met (Enters call m ∷ spots) met h n i e = kept_is_met spots met h.1 n i e
kept_is_met (GoesOn call ∷ spots) met h n i e = kept_is_met spots met h.1 n i e
kept_is_met (Stays number ∷ spots) met h n i e = kept_is_met spots met h.1 n i e

-- what is met is found
pub met_is_found : (met : List Met) (i : Instance) → is_met i met ≡ true → (one : Met) × (met_as i met ≡ Some one)
met_is_found [] i h = absurd (false≢true h)
met_is_found (one ∷ met) i h = by (is_same_instance one.instance i) h (λ k. met_is_found met i k) where
  by : (b : Bool) → (b || is_met i met) ≡ true → (is_met i met ≡ true → (other : Met) × (met_as i met ≡ Some other))
      → (other : Met) × ((if b then Some one else met_as i met) ≡ Some other)
  by true k later = (one, refl)
  by false k later = later k
