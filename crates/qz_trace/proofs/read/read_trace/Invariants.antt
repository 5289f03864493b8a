-- What is left, after the rows so far, has the text's outcome.
use Rattle.std.proofs.Common.{◌≡◌, ◌+◌, ◌*◌, ◌≤◌, length}
use Rattle.qz_trace.specs.Rows.{rows_of}
use Rattle.qz_trace.proofs.Steps.{GoesOn}
use Rattle.qz_trace.proofs.read.read_trace.Given as goal

abbrev pub invariant-loop-rest : goal.invariant-loop-rest
invariant-loop-rest l = record {
  count : length l.values.items ≡ length l.types * l.steps;
  room : l.steps + length l.rest ≤ length l.bytes;
  goes_on : GoesOn l.types l.bytes l.rest (rows_of (length l.types) l.steps l.values.items);
}

abbrev pub decreases-loop-rest : goal.decreases-loop-rest
decreases-loop-rest l = length l.rest
