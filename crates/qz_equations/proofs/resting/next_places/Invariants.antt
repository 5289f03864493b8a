use Rattle.std.proofs.Common.{◌≡◌, ◌||◌, ◌&&◌, ◌==◌, ℕ, Bool, List, length, drop}
use Rattle.std.specs.List.{list_any}
use Rattle.qz_values.specs.declared.Know.{Know}
use Rattle.qz_values.specs.Knowledge.{knows_yes}
use Rattle.qz_nets.specs.declared.net.NetId.{NetId}
use Rattle.qz_syntax.specs.declared.places.Later.{Later}
use Rattle.qz_verilog.specs.Meaning.{Nets}
use Rattle.qz_system.specs.Nexts.{rests_next}
use Rattle.qz_wires.specs.WireTable.{types_in, Reads, Extends}
use Rattle.qz_equations.specs.Ends.{Ends, AreFlags, ShowFlags}
use Rattle.qz_equations.proofs.resting.next_places.Given as goal

abbrev pub invariant-loop-entry : goal.invariant-loop-entry
invariant-loop-entry l = record {
  extends : Extends l.fn.wires l.wires;
  size : length l.flags.items ≡ length l.parts.places;
  typed : AreFlags (types_in l.wires) l.flags.items;
  shown : (settled : Nets) → Reads settled l.wires → (knows : List Know) (laters : List Later) (know : ℕ → Know) → Ends l.parts settled l.last knows laters know →
      (bits : ℕ → Bool) × ShowFlags settled l.flags.items bits
      × ((n : ℕ) → (bits n || list_any (λ (one : ℕ × NetId). (one.0 == n) && knows_yes (know one.1.0)) (drop l.entry-index l.parts.nexts)) ≡ rests_next l.parts know n);
}
