use Rattle.std.proofs.Common.{ℕ, true, ◌≡◌, ◌++◌, map, drop, false}
use Rattle.qz_first.specs.WireTable.{Reads, Extends, Has}
use Rattle.qz_first.specs.RestsBelow.{all_rest_below}
use Rattle.qz_first.specs.Driven.{writes_as_bits, DeclaresWrites}
use Rattle.qz_first.specs.BitNets.{Nets, bit_at}
use Rattle.qz_first.specs.Mirror.{mirror_of, ended_all, resume_all}
use Rattle.qz_first.proofs.depth.+depth.Given as goal

abbrev pub invariant-depth_of_all-loop-part : goal.invariant-depth_of_all-loop-part
invariant-depth_of_all-loop-part l = record {
  extends : Extends l.fn.wires l.wires;
  ends : (nets : Nets) → Reads nets l.wires →
      ended_all (map mirror_of (drop l.part-index l.parts)) nets.registers (bit_at nets l.so_far) ≡ ended_all (map mirror_of l.parts) nets.registers false;
  rest : (nets : Nets) → Reads nets l.wires →
      writes_as_bits nets l.writes.items ++ resume_all (map mirror_of (drop l.part-index l.parts)) nets.registers (bit_at nets l.act) (bit_at nets l.so_far)
      ≡ writes_as_bits nets l.fn.writes.items ++ resume_all (map mirror_of l.parts) nets.registers (bit_at nets l.act) false;
  declares : (registers : ℕ) → all_rest_below registers l.parts ≡ true → Has registers l.fn.wires l.act → DeclaresWrites registers l.fn.wires l.fn.writes.items →
      DeclaresWrites registers l.wires l.writes.items × Has registers l.wires l.so_far;
}
