use Rattle.std.proofs.Common.{◌≡◌, ℕ, length}
use Rattle.qz_verilog.specs.Meaning.{Nets}
use Rattle.qz_meaning.specs.Verdicts.{Verdict}
use Rattle.qz_system.specs.declared.valuation.Valuation.{Valuation}
use Rattle.qz_wires.specs.WireTable.{types_in, Reads, Extends}
use Rattle.qz_wires.specs.Rails.{ShowEach}
use Rattle.qz_equations.specs.Registers.{Holds}
use Rattle.qz_equations.specs.Tallies.{ShowVerdicts}
use Rattle.qz_equations.specs.Unrolled.{settles_at, AreFirstRails}
use Rattle.qz_equations.proofs.settling.settle_all.Given as goal

abbrev pub invariant-loop-number : goal.invariant-loop-number
invariant-loop-number l = record {
  extends : Extends l.fn.wires l.wires;
  size : length l.rails.items ≡ l.number;
  rails : AreFirstRails (types_in l.wires) l.parts l.rails.items;
  shown : (nets : Nets) → Reads nets l.wires → (v : Valuation) → Holds l.parts v nets → (verdicts : ℕ → Verdict) → ShowVerdicts nets l.writers verdicts
      → ShowEach nets l.rails.items (λ n. settles_at l.parts v n (verdicts n));
}
