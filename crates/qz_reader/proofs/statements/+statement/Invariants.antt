use Rattle.std.proofs.Common.{◌+◌, ◌*◌, length}
use Rattle.qz_phrases.specs.Reading.{upcoming}
use Rattle.qz_reader.proofs.Listing.{StmtsSoFar, ListsSoFar}
use Rattle.qz_reader.proofs.statements.+statement.Given as goal

abbrev pub decreases-statement : goal.decreases-statement
decreases-statement l = 8 * l.room

abbrev pub decreases-inner : goal.decreases-inner
decreases-inner l = 8 * l.room + 1

abbrev pub decreases-preempting : goal.decreases-preempting
decreases-preempting l = 8 * l.room + 2

abbrev pub decreases-other : goal.decreases-other
decreases-other l = 8 * l.room + 2

abbrev pub decreases-list : goal.decreases-list
decreases-list l = 8 * l.room + 2

abbrev pub decreases-preemption : goal.decreases-preemption
decreases-preemption l = 8 * l.room + 3

abbrev pub decreases-conditional : goal.decreases-conditional
decreases-conditional l = 8 * l.room + 3

abbrev pub decreases-do_while : goal.decreases-do_while
decreases-do_while l = 8 * l.room + 3

abbrev pub decreases-round_statement : goal.decreases-round_statement
decreases-round_statement l = 8 * l.room + 3

abbrev pub decreases-loop_statement : goal.decreases-loop_statement
decreases-loop_statement l = 8 * l.room + 3

abbrev pub decreases-lists : goal.decreases-lists
decreases-lists l = 8 * l.room + 3

abbrev pub decreases-after_weak : goal.decreases-after_weak
decreases-after_weak l = 8 * l.room + 4

abbrev pub decreases-after_immediate : goal.decreases-after_immediate
decreases-after_immediate l = 8 * l.room + 4

abbrev pub decreases-block : goal.decreases-block
decreases-block l = 8 * l.room + 4

abbrev pub decreases-weak : goal.decreases-weak
decreases-weak l = 8 * l.room + 5

abbrev pub decreases-immediate : goal.decreases-immediate
decreases-immediate l = 8 * l.room + 5

abbrev pub decreases-by_start : goal.decreases-by_start
decreases-by_start l = 8 * l.room + 7

abbrev pub invariant-list-loop-alloc : goal.invariant-list-loop-alloc
invariant-list-loop-alloc l = StmtsSoFar l.room l.fn.cursor l.list l.cursor

abbrev pub decreases-list-loop-alloc : goal.decreases-list-loop-alloc
decreases-list-loop-alloc l = length (upcoming l.cursor)

abbrev pub invariant-lists-loop-more : goal.invariant-lists-loop-more
invariant-lists-loop-more l = ListsSoFar l.room l.fn.cursor l.lists l.more l.cursor

abbrev pub decreases-lists-loop-more : goal.decreases-lists-loop-more
decreases-lists-loop-more l = length (upcoming l.cursor)
