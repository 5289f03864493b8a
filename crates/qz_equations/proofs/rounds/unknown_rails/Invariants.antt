use Rattle.std.proofs.Common.{◌≡◌, length}
use Rattle.qz_values.specs.declared.Know.TheVariants.{Unknown}
use Rattle.qz_verilog.specs.Meaning.{Nets}
use Rattle.qz_wires.specs.WireTable.{types_in, Reads, Extends}
use Rattle.qz_wires.specs.Rails.{ShowEach}
use Rattle.qz_equations.specs.Unrolled.{AreFirstRails}
use Rattle.qz_equations.proofs.rounds.unknown_rails.Given as goal

abbrev pub invariant-loop-number : goal.invariant-loop-number
invariant-loop-number l = record {
  extends : Extends l.fn.wires l.wires;
  size : length l.rails.items ≡ l.number;
  rails : AreFirstRails (types_in l.wires) l.parts l.rails.items;
  shown : (nets : Nets) → Reads nets l.wires → ShowEach nets l.rails.items (λ n. Unknown);
}
