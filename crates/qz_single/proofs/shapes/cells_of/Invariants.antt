use Rattle.std.proofs.Common.{◌≡◌, ◌+◌, map, take}
use Rattle.qz_single.proofs.shapes.cells_of.Given as goal

abbrev pub invariant-loop-local : goal.invariant-loop-local
invariant-loop-local l = l.cells ≡ map (λ n. l.outputs + n) (take l.local-index l.locals)
