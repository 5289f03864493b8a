-- The writes of a walk, as the tables take them, and what the instances settle to by them.
use Rattle.std.specs.Prelude.{◌≡◌, false, true, List, map, length}
use Rattle.qz_values.specs.declared.Know.{Know}
use Rattle.qz_values.specs.declared.Value.{Value}
use Rattle.qz_syntax.specs.declared.modules.Module.{Module}
use Rattle.qz_syntax.specs.declared.places.Later.{Later}
use Rattle.qz_syntax.specs.WellFormed.{IsNumbered}
use Rattle.qz_meaning.specs.Programs.{program_of}
use Rattle.qz_meaning.specs.Configurations.{Configuration}
use Rattle.qz_meaning.specs.Settling.{Environment}
use Rattle.qz_meaning.specs.Rounds.{next_round}
use Rattle.qz_react.specs.declared.environments.Write.{Write}
use Rattle.qz_interp.specs.declared.slots.Slot.{Slot}
use Rattle.qz_interp.specs.FirstDoubts.{AreLists}
use Rattle.qz_interp.specs.RoundTables.{verdicts_on}
use Rattle.qz_interp.specs.Slots.{values_from, laters_from}
use Rattle.qz_interp.specs.Tallying.{Numbered}

-- a write to the instance with this number
abbrev pub numbered : Write → Numbered
numbered w = record { number = w.instance; delayed = w.delayed; guard = w.guard; value = w.value }

-- what some slots settle to by these writes
pub record Settles (slots : List Slot) (writes : List Write) (values : List Know) (delayed : List Later) : Type 0 where
  pub now : values ≡ values_from 0 slots (verdicts_on false (length slots) (map numbered writes))
  pub later : delayed ≡ laters_from 0 slots (verdicts_on true (length slots) (map numbered writes))

-- these lists are the round after this environment
abbrev pub IsNextRound : Module → Configuration → List Value → Environment → List Know → List Later → Type 0
IsNextRound m c row env values delayed =
    IsNumbered m → AreLists (program_of m) (next_round (program_of m) c row env) values delayed
