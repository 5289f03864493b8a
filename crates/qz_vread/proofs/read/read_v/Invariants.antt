-- All lines so far were taken, and this is the number of the next one.
use Rattle.std.proofs.Common.{◌≡◌, ◌+◌, ◌≤◌, length}
use Rattle.qz_vread.specs.Drafted.{written}
use Rattle.qz_vread.specs.Leading.{IsReading}
use Rattle.qz_vread.proofs.read.read_v.Given as goal

abbrev pub invariant-loop-text : goal.invariant-loop-text
invariant-loop-text l = record {
  count : l.line + length l.rest ≤ length l.fn.bytes + 1;
  number : l.line ≡ length (written l.draft) + 1;
  reading : IsReading l.bytes l.draft l.rest;
}

abbrev pub decreases-loop-text : goal.decreases-loop-text
decreases-loop-text l = length l.rest
