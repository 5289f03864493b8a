use Rattle.std.proofs.Common.{◌≡◌, ℕ, Some, length}
use Rattle.std.specs.Prelude.{slice_get}
use Rattle.qz_symbolic.specs.Spelling.{IsInputRead}
use Rattle.qz_symbolic.proofs.reading.inputs_spelled.Given as goal

abbrev pub invariant-loop-n : goal.invariant-loop-n
invariant-loop-n l = record {
  long : length l.all.items ≡ l.n;
  each : (n value : ℕ) → slice_get l.all.items n ≡ Some value → IsInputRead l.variables l.bits n value;
}
