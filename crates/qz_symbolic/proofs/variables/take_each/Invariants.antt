use Rattle.std.proofs.Common.{◌≡◌, ℕ, ◌+◌, ◌<◌, length, take, get_or}
use Rattle.qz_symbolic.specs.Positions.{bit_size}
use Rattle.qz_symbolic.proofs.variables.take_each.Given as goal

abbrev pub invariant-loop-j : goal.invariant-loop-j
invariant-loop-j l = record {
  long : length l.next ≡ length l.fn.next;
  bits : l.bits.items ≡ take l.j l.fn.next;
  next : (k : ℕ) → k < length l.fn.next → get_or l.next k 0 ≡ get_or l.fn.next k 0 + bit_size l.j k;
}
