use Rattle.std.proofs.Common.{◌≡◌, ℕ, Some, length}
use Rattle.std.specs.Prelude.{slice_get}
use Rattle.qz_dd.specs.Tables.{Extends}
use Rattle.qz_rails.specs.declared.rail.Rail.{Rail}
use Rattle.qz_system.specs.declared.parts.SystemLeaf.{SystemLeaf}
use Rattle.qz_symbolic.specs.Knowing.{IsLeafRail}
use Rattle.qz_symbolic.proofs.leaves.rails_of_leaves.Given as goal

abbrev pub invariant-loop-one : goal.invariant-loop-one
invariant-loop-one l = record {
  extends : Extends l.fn.diagrams l.diagrams;
  long : length l.all.items ≡ l.one-index;
  each : (n : ℕ) (rail : Rail) → slice_get l.all.items n ≡ Some rail → (one : SystemLeaf) → slice_get l.parts.leaves n ≡ Some one →
      IsLeafRail l.diagrams l.parts l.before one rail;
}
