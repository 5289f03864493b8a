-- What the steps of a program are.
use Rattle.std.specs.Prelude.{◌≡◌, ℕ, ◌≤◌, ◌*◌, List, [], length, Option}
use Rattle.qz_values.specs.declared.Value.{Value}
use Rattle.qz_syntax.specs.declared.modules.Module.{Module}
use Rattle.qz_syntax.specs.WellFormed.{IsWellFormed}
use Rattle.qz_meaning.specs.Programs.{Program, program_of}
use Rattle.qz_meaning.specs.Configurations.{Configuration, IsConfiguration, IsValuationOf}
use Rattle.qz_meaning.specs.Settling.{step_met}
use Rattle.qz_meaning.specs.Rounds.{IsDefinite}
use Rattle.qz_meaning.specs.MacroSteps.{IsStep, HaveOneSolution}
use Rattle.qz_react.specs.declared.environments.Env.{Env}
use Rattle.qz_interp.specs.declared.doubts.Doubted.{Doubted}
use Rattle.qz_interp.specs.declared.steps.State.{State}
use Rattle.qz_interp.specs.declared.steps.StepRefusal.{StepRefusal}
use Rattle.qz_interp.specs.declared.steps.StepRefusal.TheVariants.{NotDefinite, Memory}
use Rattle.qz_interp.specs.declared.slots.Slot.{Slot}
use Rattle.qz_interp.specs.Beginning.{BeginsRounds}
use Rattle.qz_interp.specs.LastRounds.{AreLastRound, Decides, IsRefusedFor}

-- the configuration that a state is
abbrev pub state_of : State → Configuration
state_of state = record { place = state.place; outputs = state.outputs.items }

-- the lists with which the rounds of a step begin, and how many rounds are enough
pub record IsPrepared (m : Module) (c : Configuration) (row : List Value) (slots : List Slot) (env : Env) (most : ℕ) : Type 0 where
  pub begins : BeginsRounds m c row c.place slots env
  pub enough : 4 * length (step_met (program_of m) c) ≤ most

-- what rounds have come to, and what is said of it
pub record IsDecided (m : Module) (c : Configuration) (row : List Value) (env : Env) (answer : Option Doubted) : Type 0 where
  pub inputs : env.inputs.items ≡ row
  pub last : AreLastRound (program_of m) c row env.now.items env.later.items
  pub decides : Decides (program_of m) c row answer

-- The inputs and the room for outputs fit a step: the program is well formed, the configuration and the inputs are
-- the program's, and there is room for a value of each output.
pub record FitsStep (m : Module) (c : Configuration) (row : List Value) (count : ℕ) : Type 0 where
  pub well_formed : IsWellFormed [] m
  pub valuation : IsValuationOf (program_of m) c row
  pub room : count ≡ length (program_of m).outputs

-- The only macro step. Its configuration is definite, every step with these inputs has these outputs and leads to
-- the next configuration, and all solutions agree wherever instances are met.
pub record IsOnlyStep (p : Program) (c : Configuration) (row outputs : List Value) (next : Configuration) : Type 0 where
  pub definite : IsDefinite p c row
  pub step : IsStep p c row outputs next
  pub one_solution : HaveOneSolution p c row
  pub only_outputs : (others : List Value) (after : Configuration) → IsStep p c row others after → others ≡ outputs
  pub only_next : (others : List Value) (after : Configuration) → IsStep p c row others after → after ≡ next
  pub leads : IsConfiguration p next

-- the configuration with the inputs isn't definite, and this is the first doubt of its least environment
pub record IsNotDefinite (p : Program) (c : Configuration) (row : List Value) (d : Doubted) : Type 0 where
  pub refused : IsRefusedFor p c row d
  pub indefinite : IsDefinite p c row → ⊥

-- why a step isn't taken
abbrev pub IsRefusal : Program → Configuration → List Value → StepRefusal → Type 0
IsRefusal p c row (NotDefinite instance delayed doubt) = IsNotDefinite p c row record { number = instance; delayed = delayed; doubt = doubt }
IsRefusal p c row Memory = Unit {0}

-- that this is in doubt, or that there was no memory to say so
abbrev pub IsDoubtOrMemory : Doubted → StepRefusal → Type 0
IsDoubtOrMemory d (NotDefinite instance delayed doubt) = d ≡ record { number = instance; delayed = delayed; doubt = doubt }
IsDoubtOrMemory d Memory = Unit {0}
