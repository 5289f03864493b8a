use Rattle.std.proofs.Common.{◌≡◌, ℕ, Bool, Some, length}
use Rattle.std.specs.Prelude.{slice_get}
use Rattle.qz_symbolic.specs.Spelling.{IsStoreRead}
use Rattle.qz_symbolic.proofs.reading.stores_spelled.Given as goal

abbrev pub invariant-loop-n : goal.invariant-loop-n
invariant-loop-n l = record {
  long : length l.all.items ≡ l.n;
  each : (n : ℕ) (store : Bool × ℕ) → slice_get l.all.items n ≡ Some store → IsStoreRead l.variables l.bits n store;
}
