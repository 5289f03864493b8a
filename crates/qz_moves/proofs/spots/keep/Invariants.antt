use Rattle.std.proofs.Common.{◌≡◌, ◌++◌, drop}
use Rattle.qz_moves.specs.Appended.{kept}
use Rattle.qz_moves.proofs.spots.keep.Given as goal

abbrev pub invariant-loop-local : goal.invariant-loop-local
invariant-loop-local l = l.spots.items ++ kept (drop l.local-index l.locals) l.m l.when ≡ l.fn.spots.items ++ kept l.locals l.m l.when
