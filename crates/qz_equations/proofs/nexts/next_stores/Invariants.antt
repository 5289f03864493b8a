use Rattle.std.proofs.Common.{◌≡◌, ℕ, List, length}
use Rattle.qz_values.specs.declared.Know.{Know}
use Rattle.qz_syntax.specs.declared.places.Later.{Later}
use Rattle.qz_verilog.specs.Meaning.{Nets}
use Rattle.qz_system.specs.Nexts.{source}
use Rattle.qz_wires.specs.WireTable.{types_in, Reads, Extends}
use Rattle.qz_equations.specs.Ends.{Ends, AreStores, ShowStores}
use Rattle.qz_equations.proofs.nexts.next_stores.Given as goal

abbrev pub invariant-loop-number : goal.invariant-loop-number
invariant-loop-number l = record {
  extends : Extends l.fn.wires l.wires;
  from : Extends l.initial.wires l.wires;
  size : length l.stores.items ≡ l.number;
  typed : AreStores (types_in l.wires) l.parts l.stores.items;
  shown : (settled : Nets) → Reads settled l.wires → (knows : List Know) (laters : List Later) (know : ℕ → Know) → Ends l.parts settled l.last knows laters know →
      ShowStores settled l.parts l.stores.items knows laters (λ n. source l.parts know n);
}
