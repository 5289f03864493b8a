-- The fields so far and those of the rest are the line's.
use Rattle.std.proofs.Common.{◌≡◌, ◌++◌, map, length}
use Rattle.qz_trace.specs.Lines.{parts_of}
use Rattle.qz_trace.proofs.fields.split.Given as goal

abbrev pub invariant-loop-field : goal.invariant-loop-field
invariant-loop-field l = map (λ field. field.now) l.fields.items ++ parts_of 32 l.rest ≡ parts_of 32 l.line

abbrev pub decreases-loop-field : goal.decreases-loop-field
decreases-loop-field l = length l.rest
