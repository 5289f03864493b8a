use Rattle.std.proofs.Common.{◌≡◌, map, take}
use Rattle.qz_closing.specs.ProgramParts.{cell_of}
use Rattle.qz_single.proofs.cells.cells_of.Given as goal

abbrev pub invariant-loop-variable : goal.invariant-loop-variable
invariant-loop-variable l = l.cells ≡ map (cell_of l.w) (take l.variable-index l.variable-items)
