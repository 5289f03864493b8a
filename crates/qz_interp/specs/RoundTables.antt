-- That the tables of a step, by the numbers of instances, say what the rounds of the definitions say.
use Rattle.std.specs.Prelude.{◌≡◌, ℕ, Bool, true, false, List, map, length, replicate, Option, Some, None, slice_get}
use Rattle.qz_values.specs.declared.Value.{Value}
use Rattle.qz_values.specs.Values.{default_of}
use Rattle.qz_syntax.specs.declared.modules.Module.{Module}
use Rattle.qz_syntax.specs.declared.places.Store.{Store}
use Rattle.qz_syntax.specs.WellFormed.{IsNumbered}
use Rattle.qz_meaning.specs.Instances.{Instance}
use Rattle.qz_meaning.specs.Layouts.{Met}
use Rattle.qz_meaning.specs.Programs.{Program, program_of}
use Rattle.qz_meaning.specs.Configurations.{Configuration}
use Rattle.qz_meaning.specs.Settling.{Environment, step_writes, step_met, met_as}
use Rattle.qz_meaning.specs.Rounds.{next_round}
use Rattle.qz_meaning.specs.Verdicts.{Verdict, Nobody}
use Rattle.qz_interp.specs.declared.slots.Entry.{Entry}
use Rattle.qz_interp.specs.declared.slots.Entry.TheVariants.{Unmet, New, Kept}
use Rattle.qz_interp.specs.declared.slots.Slot.{Slot}
use Rattle.qz_interp.specs.Slots.{values_from, laters_from}
use Rattle.qz_interp.specs.Tallying.{Numbered, written, tallied}

-- with a store it is kept, and without one new
abbrev pub entry_with : Option Store → Entry
entry_with None = New
entry_with (Some store) = Kept store

-- how a step comes to an instance
abbrev pub entry_of : Option Met → Entry
entry_of None = Unmet
entry_of (Some one) = entry_with one.store

-- what the slot of an instance is in a step from this configuration
pub record IsSlotOf (p : Program) (c : Configuration) (i : Instance) (slot : Slot) : Type 0 where
  pub class : slot.class ≡ p.class_of i.variable
  pub default : slot.default ≡ default_of (p.type_of i.variable)
  pub entry : slot.entry ≡ entry_of (met_as i (step_met p c))

-- a slot for each instance of the program, by their numbers
pub record AreSlotsOf (p : Program) (c : Configuration) (slots : List Slot) : Type 0 where
  pub count : length slots ≡ length p.instances
  pub each : (k : ℕ) (i : Instance) (slot : Slot) → slice_get p.instances k ≡ Some i → slice_get slots k ≡ Some slot → IsSlotOf p c i slot

-- the verdicts on some writes to so many instances
abbrev pub verdicts_on : Bool → ℕ → List Numbered → List Verdict
verdicts_on delayed count numbered = tallied delayed (replicate count Nobody) numbered

-- the next round, from the writes of the walk under the round before
pub record HasNextRound (p : Program) (c : Configuration) (row : List Value) (env : Environment) (slots : List Slot) (numbered : List Numbered) : Type 0 where
  pub now : (k : ℕ) (i : Instance) → slice_get p.instances k ≡ Some i
      → slice_get (values_from 0 slots (verdicts_on false (length slots) numbered)) k ≡ Some ((next_round p c row env).now i)
  pub later : (k : ℕ) (i : Instance) → slice_get p.instances k ≡ Some i
      → slice_get (laters_from 0 slots (verdicts_on true (length slots) numbered)) k ≡ Some ((next_round p c row env).later i)

-- what the slots settle to by the verdicts on the walk's writes is the next round, at each instance
abbrev pub TablesAreRounds : Type 0
TablesAreRounds = (m : Module) → IsNumbered m → (c : Configuration) (row : List Value) (env : Environment) (slots : List Slot)
    → AreSlotsOf (program_of m) c slots → (numbered : List Numbered)
    → map (written (program_of m).instances) numbered ≡ map Some (step_writes (program_of m) c env)
    → HasNextRound (program_of m) c row env slots numbered
