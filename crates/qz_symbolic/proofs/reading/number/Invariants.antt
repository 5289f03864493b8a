use Rattle.std.proofs.Common.{◌≡◌, ◌≤◌, drop, length}
use Rattle.qz_symbolic.specs.Spelling.{spelled_number}
use Rattle.qz_symbolic.proofs.reading.number.Given as goal

abbrev pub invariant-loop-left : goal.invariant-loop-left
invariant-loop-left l = record {
  within : l.left ≤ length l.variables;
  number : l.number ≡ spelled_number l.bits (drop l.left l.variables);
}

abbrev pub decreases-loop-left : goal.decreases-loop-left
decreases-loop-left l = l.left
