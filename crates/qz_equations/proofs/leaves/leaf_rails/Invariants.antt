use Rattle.std.proofs.Common.{◌≡◌, List, length}
use Rattle.qz_values.specs.declared.Know.{Know}
use Rattle.qz_nets.specs.Readings.{listed}
use Rattle.qz_verilog.specs.Meaning.{Nets}
use Rattle.qz_system.specs.declared.valuation.Valuation.{Valuation}
use Rattle.qz_system.specs.Rounds.{leaves_known}
use Rattle.qz_wires.specs.WireTable.{types_in, Reads, Extends}
use Rattle.qz_wires.specs.Rails.{ShowEach}
use Rattle.qz_equations.specs.Registers.{Holds}
use Rattle.qz_equations.specs.Unrolled.{AreLeavesOf}
use Rattle.qz_equations.proofs.leaves.leaf_rails.Given as goal

abbrev pub invariant-loop-leaf : goal.invariant-loop-leaf
invariant-loop-leaf l = record {
  extends : Extends l.fn.wires l.wires;
  size : length l.rails.items ≡ l.leaf-index;
  rails : AreLeavesOf (types_in l.wires) l.parts l.rails.items;
  shown : (nets : Nets) → Reads nets l.wires → (v : Valuation) → Holds l.parts v nets → (before : List Know) → ShowEach nets l.now (listed before)
      → ShowEach nets l.rails.items (listed (leaves_known l.parts v before));
}
