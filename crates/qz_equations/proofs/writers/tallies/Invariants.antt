use Rattle.std.proofs.Common.{◌≡◌, ℕ, drop}
use Rattle.qz_values.specs.declared.Know.{Know}
use Rattle.qz_verilog.specs.Meaning.{Nets}
use Rattle.qz_meaning.specs.Verdicts.{Verdict}
use Rattle.qz_system.specs.Writers.{tally_of, verdict_of}
use Rattle.qz_wires.specs.WireTable.{types_in, Reads, Extends}
use Rattle.qz_wires.specs.Rails.{ShowEach}
use Rattle.qz_equations.specs.Tallies.{ShowVerdicts}
use Rattle.qz_equations.specs.Unrolled.{AreTallies}
use Rattle.qz_equations.proofs.writers.tallies.Given as goal

abbrev pub invariant-loop-act : goal.invariant-loop-act
invariant-loop-act l = record {
  extends : Extends l.fn.wires l.wires;
  tallies : AreTallies (types_in l.wires) l.parts l.tallies.items;
  shown : (settled : Nets) → Reads settled l.wires → (know : ℕ → Know) → ShowEach settled l.nets know →
      (so_far : ℕ → Verdict) × ShowVerdicts settled l.tallies.items so_far
      × ((n : ℕ) → tally_of know n l.delayed (so_far n) (drop l.act-index l.parts.acts) ≡ verdict_of know n l.delayed l.parts.acts);
}
