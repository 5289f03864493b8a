use Rattle.std.proofs.Common.{◌≡◌, ◌*◌, ◌≤◌, length}
use Rattle.std.specs.List.{flat_map, range_with_len}
use Rattle.qz_symbolic.specs.Variables.{spots_of_cell}
use Rattle.qz_symbolic.proofs.variables.cells_size.Given as goal

abbrev pub invariant-loop-n : goal.invariant-loop-n
invariant-loop-n l = record {
  size : l.size ≡ length (flat_map (spots_of_cell l.parts l.j) (range_with_len 0 l.n));
  few : l.size ≤ 2 * l.n;
}
