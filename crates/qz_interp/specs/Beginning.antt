-- What a step begins its rounds with.
use Rattle.std.specs.Prelude.{◌≡◌, List}
use Rattle.qz_values.specs.declared.Value.{Value}
use Rattle.qz_syntax.specs.declared.modules.Module.{Module}
use Rattle.qz_syntax.specs.declared.places.Place.{Place}
use Rattle.qz_syntax.specs.WellFormed.{IsNumbered}
use Rattle.qz_meaning.specs.Programs.{program_of}
use Rattle.qz_meaning.specs.Configurations.{Configuration}
use Rattle.qz_meaning.specs.Rounds.{round}
use Rattle.qz_react.specs.declared.environments.Env.{Env}
use Rattle.qz_interp.specs.declared.slots.Slot.{Slot}
use Rattle.qz_interp.specs.FirstDoubts.{AreLists}
use Rattle.qz_interp.specs.LastRounds.{HaveNumbers}
use Rattle.qz_interp.specs.RoundTables.{AreSlotsOf}

-- the tables of a step from a configuration with a row of inputs, and round 0
pub record BeginsRounds (m : Module) (c : Configuration) (row : List Value) (at : Place) (slots : List Slot) (env : Env) : Type 0 where
  pub numbered : IsNumbered m
  pub place : c.place ≡ at
  pub slots_are : AreSlotsOf (program_of m) c slots
  pub numbers : HaveNumbers (program_of m) c
  pub inputs : env.inputs.items ≡ row
  pub zero : AreLists (program_of m) (round (program_of m) c row 0) env.now.items env.later.items
