use Rattle.std.proofs.Common.{◌≡◌, ℕ, ◌+◌, ◌<◌, false, length, get_or}
use Rattle.qz_symbolic.proofs.reading.places_spelled.Given as goal

abbrev pub invariant-loop-place : goal.invariant-loop-place
invariant-loop-place l = record {
  long : length l.all.items ≡ l.place;
  each : (n : ℕ) → n < l.place → get_or l.all.items n false ≡ get_or l.bits (n + 1) false;
}
