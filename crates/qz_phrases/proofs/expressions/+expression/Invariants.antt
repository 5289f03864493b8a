use Rattle.std.proofs.Common.{◌+◌, ◌*◌, ◌≤◌, length}
use Rattle.qz_phrases.specs.Reading.{upcoming}
use Rattle.qz_phrases.proofs.Climbing.{SoFar}
use Rattle.qz_phrases.proofs.expressions.+expression.Given as goal

abbrev pub decreases-climb : goal.decreases-climb
decreases-climb l = 4 * l.room + 2

abbrev pub decreases-operand : goal.decreases-operand
decreases-operand l = 4 * l.room + 1

abbrev pub decreases-parenthesised : goal.decreases-parenthesised
decreases-parenthesised l = 4 * l.room

abbrev pub decreases-prefixed : goal.decreases-prefixed
decreases-prefixed l = 4 * l.room

abbrev pub decreases-continuation : goal.decreases-continuation
decreases-continuation l = 4 * l.room + 3

abbrev pub invariant-climb-loop-alloc : goal.invariant-climb-loop-alloc
invariant-climb-loop-alloc l = 1 ≤ l.least → l.least ≤ 9 → SoFar l.least l.room l.fn.cursor l.left.expr l.left.strength l.left.height l.cursor

abbrev pub decreases-climb-loop-alloc : goal.decreases-climb-loop-alloc
decreases-climb-loop-alloc l = length (upcoming l.cursor)
