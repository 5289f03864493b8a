use Rattle.std.proofs.Common.{◌≡◌, ◌≤◌, length}
use Rattle.std.specs.List.{flat_map, range_with_len}
use Rattle.qz_symbolic.specs.Variables.{spots_of_input}
use Rattle.qz_symbolic.proofs.variables.inputs_size.Given as goal

abbrev pub invariant-loop-n : goal.invariant-loop-n
invariant-loop-n l = record {
  size : l.size ≡ length (flat_map (spots_of_input l.parts l.j) (range_with_len 0 l.n));
  few : l.size ≤ l.n;
}
