use Rattle.std.proofs.Common.{length}
use Rattle.qz_first.specs.Reading.{upcoming}
use Rattle.qz_first.proofs.FormalLemmas.{FormalsSoFar}
use Rattle.qz_first.proofs.reader.formals.Given as goal

abbrev pub invariant-loop-alloc : goal.invariant-loop-alloc
invariant-loop-alloc l = FormalsSoFar (upcoming l.fn.cursor) l.formals (upcoming l.cursor)

abbrev pub decreases-loop-alloc : goal.decreases-loop-alloc
decreases-loop-alloc l = length (upcoming l.cursor)
