use Rattle.std.proofs.Common.{List}
use Rattle.qz_values.specs.declared.Know.{Know}
use Rattle.qz_nets.specs.Readings.{listed}
use Rattle.qz_syntax.specs.declared.places.Later.{Later}
use Rattle.qz_verilog.specs.Meaning.{Nets}
use Rattle.qz_system.specs.declared.valuation.Valuation.{Valuation}
use Rattle.qz_system.specs.Nexts.{IsNthRound}
use Rattle.qz_wires.specs.WireTable.{types_in, Reads, Extends}
use Rattle.qz_wires.specs.Rails.{ShowEach}
use Rattle.qz_equations.specs.Registers.{Holds}
use Rattle.qz_equations.specs.Unrolled.{AreInstanceRails}
use Rattle.qz_equations.proofs.rounds.round_rails.Given as goal

abbrev pub invariant-loop-round : goal.invariant-loop-round
invariant-loop-round l = record {
  extends : Extends l.fn.wires l.wires;
  rails : AreInstanceRails (types_in l.wires) l.parts l.now.items;
  shown : (nets : Nets) → Reads nets l.wires → (v : Valuation) → Holds l.parts v nets → (knows : List Know) (delayed : List Later) →
      IsNthRound l.parts v l._round knows delayed → ShowEach nets l.now.items (listed knows);
}
