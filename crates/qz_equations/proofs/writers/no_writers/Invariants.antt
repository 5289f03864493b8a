use Rattle.std.proofs.Common.{◌≡◌, length}
use Rattle.qz_verilog.specs.Meaning.{Nets}
use Rattle.qz_meaning.specs.Verdicts.{Nobody}
use Rattle.qz_wires.specs.WireTable.{types_in, Reads, Extends}
use Rattle.qz_equations.specs.Tallies.{ShowVerdicts}
use Rattle.qz_equations.specs.Unrolled.{AreFirstTallies}
use Rattle.qz_equations.proofs.writers.no_writers.Given as goal

abbrev pub invariant-loop-number : goal.invariant-loop-number
invariant-loop-number l = record {
  extends : Extends l.fn.wires l.wires;
  size : length l.tallies.items ≡ l.number;
  tallies : AreFirstTallies (types_in l.wires) l.parts l.tallies.items;
  shown : (settled : Nets) → Reads settled l.wires → ShowVerdicts settled l.tallies.items (λ n. Nobody);
}
