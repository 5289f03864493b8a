-- The bytes that are gone from `rest` were appended.
use Rattle.std.proofs.Common.{◌≡◌, ℕ, take, drop, length}
use Rattle.std.specs.Io.KnownBytes.{Appends}
use Rattle.qz_io.proofs.writing.write_bytes.Given as goal

abbrev pub invariant-loop-rest : goal.invariant-loop-rest
invariant-loop-rest g l = (n : ℕ) × (l.rest ≡ drop n l.bytes) × Appends (g.W.Write.contents l.initial.writer) (g.W.Write.contents l.writer) (take n l.bytes)

abbrev pub decreases-loop-rest : goal.decreases-loop-rest
decreases-loop-rest g l = length l.rest
