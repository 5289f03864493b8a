use Rattle.std.proofs.Common.{◌≡◌, ◌+◌, ◌*◌, ◌≤◌, map}
use Rattle.std.specs.List.{range_with_len}
use Rattle.qz_symbolic.specs.Positions.{group_start}
use Rattle.qz_symbolic.proofs.variables.group_starts.Given as goal

abbrev pub invariant-loop-j : goal.invariant-loop-j
invariant-loop-j l = record {
  starts : l.starts.items ≡ map (group_start l.parts) (range_with_len 0 l.j);
  next : l.next ≡ group_start l.parts l.j;
  few : l.next ≤ 200001 + 600000 * l.j;
}
