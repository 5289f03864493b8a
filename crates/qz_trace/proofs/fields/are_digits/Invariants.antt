-- Each byte so far is a digit.
use Rattle.std.proofs.Common.{ℕ, ◌<◌, get_or}
use Rattle.std.specs.Int.{IsInRange}
use Rattle.qz_trace.proofs.fields.are_digits.Given as goal

abbrev pub invariant-loop-byte : goal.invariant-loop-byte
invariant-loop-byte l = (i : ℕ) → i < l.byte-index → IsInRange 48 57 (get_or l.field i 0)
