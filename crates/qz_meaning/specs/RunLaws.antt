-- The laws of runs: where every permitted valuation is definite there is exactly one run.
use Rattle.std.specs.Prelude.{List, [], ◌∷◌}
use Rattle.std.specs.List.{AllByRecursion}
use Rattle.qz_values.specs.declared.Value.{Value}
use Rattle.qz_syntax.specs.declared.modules.Module.{Module}
use Rattle.qz_syntax.specs.WellFormed.{IsWellFormed}
use Rattle.qz_meaning.specs.Programs.{Program, program_of}
use Rattle.qz_meaning.specs.Configurations.{Configuration, IsRow, IsValuationOf, initial}
use Rattle.qz_meaning.specs.Rounds.{IsDefinite}
use Rattle.qz_meaning.specs.MacroSteps.{IsStep}
use Rattle.qz_meaning.specs.Runs.{IsOnlyRun}
use Rattle.qz_meaning.specs.Valuations.{Valuation, IsPermitted}

-- wherever a run over these rows comes, the configuration with the next row is definite
abbrev pub IsDefiniteFrom : Program → Configuration → List (List Value) → Type 0
IsDefiniteFrom p c [] = Unit {0}
IsDefiniteFrom p c (row ∷ rows) =
    IsDefinite p c row × ((outputs : List Value) (next : Configuration) → IsStep p c row outputs next → IsDefiniteFrom p next rows)

-- then there is exactly one run
abbrev pub DefiniteRunsOnce : Type 0
DefiniteRunsOnce = (m : Module) → IsWellFormed [] m → (rows : List (List Value))
    → IsDefiniteFrom (program_of m) (initial (program_of m)) rows
    → (outputs : List (List Value)) × IsOnlyRun (program_of m) rows outputs

-- a permitted valuation is one of the program
abbrev pub PermittedAreValuations : Type 0
PermittedAreValuations = (p : Program) (v : Valuation) → IsPermitted p v → IsValuationOf p v.configuration v.inputs

-- a macro step from a permitted valuation that is definite leads to permitted ones
abbrev pub PermittedStays : Type 0
PermittedStays = (m : Module) → IsWellFormed [] m → (v : Valuation) → IsPermitted (program_of m) v
    → IsDefinite (program_of m) v.configuration v.inputs → (outputs : List Value) (next : Configuration)
    → IsStep (program_of m) v.configuration v.inputs outputs next → (row : List Value) → IsRow (program_of m) row
    → IsPermitted (program_of m) record { configuration = next; inputs = row }

-- a program that is definite at every permitted valuation
abbrev pub IsAlwaysDefinite : Program → Type 0
IsAlwaysDefinite p = (v : Valuation) → IsPermitted p v → IsDefinite p v.configuration v.inputs

-- such a program has exactly one run over each list of rows of inputs
abbrev pub CheckedRunsOnce : Type 0
CheckedRunsOnce = (m : Module) → IsWellFormed [] m → IsAlwaysDefinite (program_of m) → (rows : List (List Value))
    → AllByRecursion (IsRow (program_of m)) rows → (outputs : List (List Value)) × IsOnlyRun (program_of m) rows outputs
