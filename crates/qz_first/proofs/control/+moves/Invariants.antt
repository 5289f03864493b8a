use Rattle.std.proofs.Common.{ℕ, true, ◌≡◌, ◌++◌, map, drop, false}
use Rattle.qz_first.specs.WireTable.{Reads, Extends, Has}
use Rattle.qz_first.specs.RestsBelow.{all_rest_below}
use Rattle.qz_first.specs.Driven.{rests_as_bits, DeclaresRests}
use Rattle.qz_first.specs.BitNets.{Nets, bit_at}
use Rattle.qz_first.specs.Mirror.{mirror_of, ended_all, move_all}
use Rattle.qz_first.proofs.control.+moves.Given as goal

abbrev pub invariant-moves_on-loop-part : goal.invariant-moves_on-loop-part
invariant-moves_on-loop-part l = record {
  extends : Extends l.fn.wires l.wires;
  ends : (nets : Nets) → Reads nets l.wires →
      ended_all (map mirror_of (drop l.part-index l.parts)) nets.registers (bit_at nets l.so_far) ≡ ended_all (map mirror_of l.parts) nets.registers false;
  rest : (nets : Nets) → Reads nets l.wires →
      rests_as_bits nets l.rests.items ++ move_all (map mirror_of (drop l.part-index l.parts)) nets.registers (bit_at nets l.so_far)
      ≡ rests_as_bits nets l.fn.rests.items ++ move_all (map mirror_of l.parts) nets.registers false;
  declares : (registers : ℕ) → all_rest_below registers l.parts ≡ true → DeclaresRests registers l.fn.wires l.fn.rests.items →
      DeclaresRests registers l.wires l.rests.items × Has registers l.wires l.so_far;
}
