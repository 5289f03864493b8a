use Rattle.std.proofs.Common.{◌+◌, ◌-◌, ◌*◌, length}
use Rattle.qz_first.specs.Reading.{upcoming}
use Rattle.qz_first.proofs.ReadingLemmas.{BlockSoFar}
use Rattle.qz_first.proofs.reader.+statement.Given as goal

-- a statement calls those of one level more, of which there are at most 129, and a block its own
abbrev pub decreases-statement : goal.decreases-statement
decreases-statement l = 2 * (130 - l.level)

abbrev pub decreases-statements : goal.decreases-statements
decreases-statements l = 2 * (130 - l.level) + 1

abbrev pub invariant-statements-loop-alloc : goal.invariant-statements-loop-alloc
invariant-statements-loop-alloc l = BlockSoFar l.level (upcoming l.initial.cursor) l.parts (upcoming l.cursor)

abbrev pub decreases-statements-loop-alloc : goal.decreases-statements-loop-alloc
decreases-statements-loop-alloc l = length (upcoming l.cursor)
