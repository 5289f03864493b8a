use Rattle.std.proofs.Common.{ℕ, ◌≡◌, ◌&&◌, ◌++◌, map, drop}
use Rattle.qz_first.specs.WireTable.{Reads, Extends, Has}
use Rattle.qz_first.specs.Driven.{writes_as_bits, DeclaresWrites}
use Rattle.qz_first.specs.BitNets.{Nets, bit_at}
use Rattle.qz_first.specs.Mirror.{mirror_of, start_all, all_at_once}
use Rattle.qz_first.proofs.surface.+surface.Given as goal

abbrev pub invariant-surface_of_all-loop-part : goal.invariant-surface_of_all-loop-part
invariant-surface_of_all-loop-part l = record {
  extends : Extends l.fn.wires l.wires;
  ends : (nets : Nets) → Reads nets l.wires →
      (bit_at nets l.ends && all_at_once (map mirror_of (drop l.part-index l.parts))) ≡ all_at_once (map mirror_of l.parts);
  rest : (nets : Nets) → Reads nets l.wires →
      writes_as_bits nets l.writes.items ++ start_all (map mirror_of (drop l.part-index l.parts)) (bit_at nets l.start)
      ≡ writes_as_bits nets l.fn.writes.items ++ start_all (map mirror_of l.parts) (bit_at nets l.fn.start);
  declares : (registers : ℕ) → Has registers l.fn.wires l.fn.start → DeclaresWrites registers l.fn.wires l.fn.writes.items →
      DeclaresWrites registers l.wires l.writes.items × Has registers l.wires l.start × Has registers l.wires l.ends;
}
