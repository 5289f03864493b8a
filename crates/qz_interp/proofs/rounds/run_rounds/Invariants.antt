use Rattle.std.proofs.Common.{◌≡◌, List, length}
use Rattle.qz_values.specs.declared.Value.{Value}
use Rattle.qz_meaning.specs.Programs.{program_of}
use Rattle.qz_meaning.specs.Configurations.{Configuration}
use Rattle.qz_meaning.specs.Rounds.{round}
use Rattle.qz_react.specs.Reacting.{IsWalkerOf}
use Rattle.qz_interp.specs.Beginning.{BeginsRounds}
use Rattle.qz_interp.specs.FirstDoubts.{AreLists}
use Rattle.qz_interp.specs.Touching.{Suits, IsClear}
use Rattle.qz_interp.proofs.rounds.run_rounds.Given as goal

abbrev pub invariant-loop-round : goal.invariant-loop-round
invariant-loop-round l = record {
  walker : IsWalkerOf l.setting.whole.now.module l.walker;
  suits : Suits l.setting.slots.now l.setting.met.now l.env;
  clear : IsClear (length l.setting.slots.now) l.sheet;
  inputs : l.env.inputs.items ≡ l.initial.env.inputs.items;
  lists : (c : Configuration) (row : List Value) → BeginsRounds l.setting.whole.now.module c row l.setting.place.now l.setting.slots.now l.initial.env
      → AreLists (program_of l.setting.whole.now.module) (round (program_of l.setting.whole.now.module) c row l._round) l.env.now.items l.env.later.items;
}
