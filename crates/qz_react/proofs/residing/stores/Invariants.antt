use Rattle.std.proofs.Common.{◌≡◌, ◌++◌, drop}
use Rattle.qz_meaning.specs.Scenes.{Passing}
use Rattle.qz_meaning.specs.Residing.{stores_from}
use Rattle.qz_react.specs.Landing.{Passes}
use Rattle.qz_react.proofs.residing.stores.Given as goal

abbrev pub invariant-loop-local : goal.invariant-loop-local
invariant-loop-local l = (step : Passing) → Passes l.land.module.now l.land.view.table.now l.land.view.env.now step
    → l.made.items ++ stores_from step (drop l.local-index l.locals) l.m ≡ stores_from step l.locals l.m
