use Rattle.std.proofs.Common.{◌≡◌, ℕ, Some, length}
use Rattle.std.specs.Prelude.{slice_get}
use Rattle.qz_dd.specs.Tables.{Extends}
use Rattle.qz_tallies.specs.declared.stored.Stored.{Stored}
use Rattle.qz_system.specs.declared.parts.Cell.{Cell}
use Rattle.qz_symbolic.specs.Views.{IsStoreOf}
use Rattle.qz_symbolic.proofs.spelled.stores_of.Given as goal

abbrev pub invariant-loop-n : goal.invariant-loop-n
invariant-loop-n l = record {
  extends : Extends l.fn.diagrams l.diagrams;
  long : length l.all.items ≡ l.n;
  each : (n : ℕ) (stored : Stored) → slice_get l.all.items n ≡ Some stored → (cell : Cell) → slice_get l.parts.cells n ≡ Some cell →
      IsStoreOf l.diagrams l.parts n cell stored;
}
