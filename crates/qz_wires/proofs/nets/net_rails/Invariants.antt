use Rattle.std.proofs.Common.{◌≡◌, length}
use Rattle.qz_nets.specs.Readings.{Reading, Reads as ReadsNets}
use Rattle.qz_verilog.specs.Meaning.{Nets}
use Rattle.qz_wires.specs.WireTable.{types_in, Reads, Extends}
use Rattle.qz_wires.specs.Rails.{ShowEach}
use Rattle.qz_wires.specs.NetRails.{AreLeafRails, AreNetRails}
use Rattle.qz_wires.proofs.nets.net_rails.Given as goal

abbrev pub invariant-loop-number : goal.invariant-loop-number
invariant-loop-number l = record {
  extends : Extends l.fn.wires l.wires;
  size : length l.rails.items ≡ l.number;
  leaves : AreLeafRails (types_in l.wires) l.nets l.leaves;
  rails : AreNetRails (types_in l.wires) l.nets l.rails.items;
  means : (settled : Nets) → Reads settled l.wires → (v : Reading) → ReadsNets v l.nets →
      ShowEach settled l.leaves v.leaf → ShowEach settled l.rails.items v.know;
}
