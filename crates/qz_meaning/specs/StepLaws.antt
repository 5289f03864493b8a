-- The laws of macro steps: where the least environment is definite it is the only solution.
use Rattle.std.specs.Prelude.{◌≡◌, ◌≢◌, ℕ, List, []}
use Rattle.std.specs.List.{AllByRecursion}
use Rattle.qz_values.specs.declared.Value.{Value}
use Rattle.qz_values.specs.declared.Know.TheVariants as know
use Rattle.qz_syntax.specs.declared.modules.Module.{Module}
use Rattle.qz_syntax.specs.declared.places.Later.TheVariants as later
use Rattle.qz_syntax.specs.WellFormed.{IsWellFormed}
use Rattle.qz_meaning.specs.Layouts.{Met}
use Rattle.qz_meaning.specs.Programs.{Program, HasOwnNumbers, program_of}
use Rattle.qz_meaning.specs.Configurations.{Configuration, IsConfiguration}
use Rattle.qz_meaning.specs.Settling.{Environment, step_met}
use Rattle.qz_meaning.specs.Rounds.{round, AgreeWhereMet, IsDefinite}
use Rattle.qz_meaning.specs.MacroSteps.{IsSolution, HaveOneSolution, IsStep}
use Rattle.qz_meaning.specs.Rising.{EnvironmentBelow}

-- every solution lies above every round, so above the least environment, definite or not
abbrev pub SolutionsAbove : Type 0
SolutionsAbove = (p : Program) (c : Configuration) (row : List Value) (env : Environment)
    → IsSolution p c row env → (n : ℕ) → EnvironmentBelow (round p c row n) env

-- neither the instance nor its delayed value is a clash
pub record HasNoClashAt (env : Environment) (one : Met) : Type 0 where
  pub now : env.now one.instance ≢ know.Clash
  pub later : env.later one.instance ≢ later.Clash

-- where there is a solution no round has a clash: where the least environment has one there is no macro step
abbrev pub SolvedNeverClash : Type 0
SolvedNeverClash = (p : Program) (c : Configuration) (row : List Value) (env : Environment)
    → IsSolution p c row env → (n : ℕ) → AllByRecursion (HasNoClashAt (round p c row n)) (step_met p c)

-- every solution is a definite least environment wherever instances are met
abbrev pub SolutionsAreLeast : Type 0
SolutionsAreLeast = (p : Program) (c : Configuration) (row : List Value) (env : Environment)
    → IsSolution p c row env → (definite : IsDefinite p c row) → AgreeWhereMet p c definite.least env

-- a definite least environment is a solution
abbrev pub LeastSolves : Type 0
LeastSolves = (p : Program) → HasOwnNumbers p → (c : Configuration) (row : List Value)
    → (definite : IsDefinite p c row) → IsSolution p c row definite.least

-- There is exactly one macro step: every one has these outputs and leads to this configuration, and is that of
-- the same solution.
pub record HasOneStep (p : Program) (c : Configuration) (row : List Value) : Type 0 where
  pub outputs : List Value
  pub next : Configuration
  pub step : IsStep p c row outputs next
  pub one_solution : HaveOneSolution p c row
  pub only_outputs : (others : List Value) (after : Configuration) → IsStep p c row others after → others ≡ outputs
  pub only_next : (others : List Value) (after : Configuration) → IsStep p c row others after → after ≡ next

-- a definite configuration with inputs has exactly one step
abbrev pub DefiniteStepsOnce : Type 0
DefiniteStepsOnce = (m : Module) → IsWellFormed [] m → (c : Configuration) (row : List Value)
    → IsDefinite (program_of m) c row → HasOneStep (program_of m) c row

-- a step from a configuration of the program, definite or not, leads to one
abbrev pub StepsLeadToConfigurations : Type 0
StepsLeadToConfigurations = (p : Program) (c : Configuration) (row outputs : List Value) (next : Configuration)
    → IsStep p c row outputs next → IsConfiguration p next
