use Rattle.std.proofs.Common.{ℕ, ◌≡◌, drop, length}
use Rattle.qz_first.specs.Driven.{DeclaresRests, DeclaresRow}
use Rattle.qz_first.specs.BitNets.{Nets}
use Rattle.qz_first.specs.WireTable.{Reads, Extends}
use Rattle.qz_first.specs.Driven.{rests_as_bits, AreDrivenAfter}
use Rattle.qz_first.proofs.circuit.next_places.Given as goal

abbrev pub invariant-loop-rest : goal.invariant-loop-rest
invariant-loop-rest l = record {
  extends : Extends l.fn.wires l.wires;
  count : length l.nexts.items ≡ l.places;
  rest : (nets : Nets) → Reads nets l.wires →
      AreDrivenAfter nets (rests_as_bits nets (drop l.rest-index l.rests)) l.nexts.items (rests_as_bits nets l.rests);
  declares : (registers : ℕ) → DeclaresRests registers l.fn.wires l.rests → DeclaresRow registers l.wires l.nexts.items;
}
