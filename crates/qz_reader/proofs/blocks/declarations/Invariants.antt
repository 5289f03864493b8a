use Rattle.std.proofs.Common.{ℕ, length}
use Rattle.qz_phrases.specs.Reading.{upcoming}
use Rattle.qz_reader.proofs.Listing.{DeclsSoFar}
use Rattle.qz_reader.proofs.blocks.declarations.Given as goal

abbrev pub invariant-loop-alloc : goal.invariant-loop-alloc
invariant-loop-alloc l = (room : ℕ) → DeclsSoFar room l.initial.cursor l.decls l.cursor

abbrev pub decreases-loop-alloc : goal.decreases-loop-alloc
decreases-loop-alloc l = length (upcoming l.cursor)
