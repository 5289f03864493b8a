-- Where a machine is, and what a step of it takes.
use Rattle.std.specs.Prelude.{◌≡◌, ℕ, List}
use Rattle.qz_values.specs.declared.Value.{Value}
use Rattle.qz_syntax.specs.declared.modules.Whole.{Whole}
use Rattle.qz_meaning.specs.Programs.{program_of}
use Rattle.qz_meaning.specs.Configurations.{Configuration, initial}
use Rattle.qz_interp.specs.declared.machine.Machine.{Machine}
use Rattle.qz_interp.specs.OnlySteps.{FitsStep, state_of}

-- the place of control, and what the outputs keep
abbrev pub configuration_of : Machine → Configuration
configuration_of machine = state_of machine.state

-- a machine of this program at its beginning
pub record IsAtBeginning (w : Whole) (machine : Machine) : Type 0 where
  pub program : machine.whole ≡ w
  pub configuration : configuration_of machine ≡ initial (program_of w.module)

-- the inputs and the room for outputs fit a step of the machine
abbrev pub CanTake : Machine → List Value → ℕ → Type 0
CanTake machine row count = FitsStep machine.whole.module (configuration_of machine) row count
