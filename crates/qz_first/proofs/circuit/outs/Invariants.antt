use Rattle.std.proofs.Common.{ℕ, ◌≡◌, drop, length}
use Rattle.qz_first.specs.Driven.{DeclaresWrites, DeclaresRow}
use Rattle.qz_first.specs.BitNets.{Nets}
use Rattle.qz_first.specs.WireTable.{Reads, Extends}
use Rattle.qz_first.specs.Driven.{writes_as_bits, AreDrivenAfter}
use Rattle.qz_first.proofs.circuit.outs.Given as goal

abbrev pub invariant-loop-write : goal.invariant-loop-write
invariant-loop-write l = record {
  extends : Extends l.fn.wires l.wires;
  count : length l.outs.items ≡ l.count;
  rest : (nets : Nets) → Reads nets l.wires →
      AreDrivenAfter nets (writes_as_bits nets (drop l.write-index l.writes)) l.outs.items (writes_as_bits nets l.writes);
  declares : (registers : ℕ) → DeclaresWrites registers l.fn.wires l.writes → DeclaresRow registers l.wires l.outs.items;
}
