use Rattle.std.proofs.Common.{◌≡◌, ◌++◌, map, drop}
use Rattle.std.specs.List.{concat}
use Rattle.qz_system.specs.Shapes.{shape_cells}
use Rattle.qz_system.proofs.shaped.+cells.Given as goal

abbrev pub invariant-add_cells_of_all-loop-part : goal.invariant-add_cells_of_all-loop-part
invariant-add_cells_of_all-loop-part l =
    l.cells.items ++ concat (map shape_cells (drop l.part-index l.parts)) ≡ l.fn.cells.items ++ concat (map shape_cells l.parts)
