-- The laws of the writes of a step: they read and reach no more than what the step meets and its inputs.
use Rattle.std.specs.Prelude.{◌≡◌, IsTrue, List, []}
use Rattle.std.specs.List.{AllByRecursion}
use Rattle.qz_syntax.specs.declared.modules.Module.{Module}
use Rattle.qz_values.specs.declared.Value.{Value}
use Rattle.qz_syntax.specs.WellFormed.{IsWellFormed}
use Rattle.qz_meaning.specs.Accounts.{Write}
use Rattle.qz_meaning.specs.Programs.{program_of}
use Rattle.qz_meaning.specs.Configurations.{Configuration, IsConfiguration}
use Rattle.qz_meaning.specs.Settling.{Environment, step_writes, step_met}
use Rattle.qz_meaning.specs.Rounds.{AgreeWhereMet}
use Rattle.qz_meaning.specs.MacroSteps.{HasInputs}
use Rattle.qz_meaning.specs.MeetingLaws.{is_met}

-- environments that agree at the inputs and wherever instances are met give the same writes
abbrev pub WritesReadWhatIsMet : Type 0
WritesReadWhatIsMet = (m : Module) → IsWellFormed [] m → (c : Configuration) → IsConfiguration (program_of m) c → (row : List Value)
    → (a b : Environment) → HasInputs (program_of m) a row → HasInputs (program_of m) b row → AgreeWhereMet (program_of m) c a b
    → step_writes (program_of m) c a ≡ step_writes (program_of m) c b

-- the target is one of the instances that the step meets
abbrev pub IsToMet : Module → Configuration → Write → Type 0
IsToMet m c w = IsTrue (is_met w.target (step_met (program_of m) c))

-- whatever is known, no other instance is written to
abbrev pub WhatIsWrittenIsMet : Type 0
WhatIsWrittenIsMet = (m : Module) → IsWellFormed [] m → (c : Configuration) → IsConfiguration (program_of m) c
    → (env : Environment) → AllByRecursion (IsToMet m c) (step_writes (program_of m) c env)
