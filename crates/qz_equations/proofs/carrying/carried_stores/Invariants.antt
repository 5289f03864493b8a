use Rattle.std.proofs.Common.{◌≡◌, ◌-◌, ℕ, List, length, drop}
use Rattle.qz_values.specs.declared.Know.{Know}
use Rattle.qz_syntax.specs.declared.places.Later.{Later}
use Rattle.qz_verilog.specs.Meaning.{Nets}
use Rattle.qz_system.specs.Nexts.{first_carry}
use Rattle.qz_wires.specs.WireTable.{types_in, Reads, Extends}
use Rattle.qz_equations.specs.Ends.{Ends, AreStores, ShowStores}
use Rattle.qz_equations.proofs.carrying.carried_stores.Given as goal

abbrev pub invariant-loop-done : goal.invariant-loop-done
invariant-loop-done l = record {
  extends : Extends l.fn.wires l.wires;
  size : length l.stores.items ≡ length l.parts.cells;
  typed : AreStores (types_in l.wires) l.parts l.stores.items;
  shown : (settled : Nets) → Reads settled l.wires → (knows : List Know) (laters : List Later) (know : ℕ → Know) → Ends l.parts settled l.last knows laters know →
      ShowStores settled l.parts l.stores.items knows laters (λ n. first_carry know n (drop (length l.carries - l.done) l.carries));
}
