use Rattle.std.proofs.Common.{◌≡◌, ℕ, Some, length}
use Rattle.std.specs.Prelude.{slice_get}
use Rattle.qz_symbolic.specs.declared.variables.InputVariables.{InputVariables}
use Rattle.qz_symbolic.specs.Variables.{AreOfInput}
use Rattle.qz_symbolic.specs.Positions.{AreInputStarts}
use Rattle.qz_symbolic.proofs.variables.inputs_variables.Given as goal

abbrev pub invariant-loop-n : goal.invariant-loop-n
invariant-loop-n l = record {
  count : length l.all.items ≡ l.n;
  each : (n : ℕ) (one : InputVariables) → slice_get l.all.items n ≡ Some one → AreOfInput l.parts n one;
  next : AreInputStarts l.parts l.n l.next;
}
