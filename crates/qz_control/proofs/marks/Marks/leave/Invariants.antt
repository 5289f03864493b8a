use Rattle.std.proofs.Common.{◌≡◌, length}
use Rattle.qz_control.specs.Contexts.{context_of, restored}
use Rattle.qz_control.proofs.marks.Marks.leave.Given as goal

abbrev pub invariant-loop-one : goal.invariant-loop-one
invariant-loop-one l = restored (context_of l.self) l.covered.items ≡ restored (context_of l.fn.self) l.fn.covered.items

abbrev pub decreases-loop-one : goal.decreases-loop-one
decreases-loop-one l = length l.covered.items
