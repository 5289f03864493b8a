use Rattle.std.proofs.Common.{◌≡◌, ℕ, Some, length}
use Rattle.std.specs.Prelude.{slice_get}
use Rattle.qz_dd.specs.Tables.{Extends}
use Rattle.qz_symbolic.specs.declared.rails.InstanceRails.{InstanceRails}
use Rattle.qz_symbolic.specs.Settled.{IsSettledBy}
use Rattle.qz_symbolic.proofs.settling.settle_all.Given as goal

abbrev pub invariant-loop-n : goal.invariant-loop-n
invariant-loop-n l = record {
  extends : Extends l.fn.diagrams l.diagrams;
  long : length l.all.items ≡ l.n;
  each : (n : ℕ) (one : InstanceRails) → slice_get l.all.items n ≡ Some one → IsSettledBy l.diagrams l.parts n l.fn.tallied.now.now l.fn.tallied.later.now one;
}
