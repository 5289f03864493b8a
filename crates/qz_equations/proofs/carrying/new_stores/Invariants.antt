use Rattle.std.proofs.Common.{◌≡◌, List, None, length}
use Rattle.qz_values.specs.declared.Know.{Know}
use Rattle.qz_syntax.specs.declared.places.Later.{Later}
use Rattle.qz_verilog.specs.Meaning.{Nets}
use Rattle.qz_wires.specs.WireTable.{types_in, Reads, Extends}
use Rattle.qz_equations.specs.Ends.{AreStores, ShowStores}
use Rattle.qz_equations.proofs.carrying.new_stores.Given as goal

abbrev pub invariant-loop-cell : goal.invariant-loop-cell
invariant-loop-cell l = record {
  extends : Extends l.fn.wires l.wires;
  size : length l.stores.items ≡ l.cell-index;
  typed : AreStores (types_in l.wires) l.parts l.stores.items;
  shown : (settled : Nets) → Reads settled l.wires → (knows : List Know) (laters : List Later) → ShowStores settled l.parts l.stores.items knows laters (λ n. None);
}
