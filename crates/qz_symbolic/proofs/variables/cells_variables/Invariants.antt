use Rattle.std.proofs.Common.{◌≡◌, ℕ, Some, length}
use Rattle.std.specs.Prelude.{slice_get}
use Rattle.qz_symbolic.specs.declared.variables.CellVariables.{CellVariables}
use Rattle.qz_symbolic.specs.Variables.{AreOfCell}
use Rattle.qz_symbolic.specs.Positions.{AreCellStarts}
use Rattle.qz_symbolic.proofs.variables.cells_variables.Given as goal

abbrev pub invariant-loop-n : goal.invariant-loop-n
invariant-loop-n l = record {
  count : length l.all.items ≡ l.n;
  each : (n : ℕ) (one : CellVariables) → slice_get l.all.items n ≡ Some one → AreOfCell l.parts n one;
  next : AreCellStarts l.parts l.n l.next;
}
