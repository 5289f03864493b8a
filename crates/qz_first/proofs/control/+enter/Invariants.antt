use Rattle.std.proofs.Common.{ℕ, true, ◌≡◌, ◌&&◌, ◌++◌, map, drop}
use Rattle.qz_first.specs.WireTable.{Reads, Extends, Has}
use Rattle.qz_first.specs.RestsBelow.{all_rest_below}
use Rattle.qz_first.specs.Driven.{rests_as_bits, DeclaresRests}
use Rattle.qz_first.specs.BitNets.{Nets, bit_at}
use Rattle.qz_first.specs.Mirror.{mirror_of, enter_all, all_at_once}
use Rattle.qz_first.proofs.control.+enter.Given as goal

abbrev pub invariant-enter_first-loop-part : goal.invariant-enter_first-loop-part
invariant-enter_first-loop-part l = record {
  extends : Extends l.fn.wires l.wires;
  ends : (nets : Nets) → Reads nets l.wires →
      (bit_at nets l.ends && all_at_once (map mirror_of (drop l.part-index l.parts))) ≡ all_at_once (map mirror_of l.parts);
  rest : (nets : Nets) → Reads nets l.wires →
      rests_as_bits nets l.rests.items ++ enter_all (map mirror_of (drop l.part-index l.parts)) (bit_at nets l.start)
      ≡ rests_as_bits nets l.fn.rests.items ++ enter_all (map mirror_of l.parts) (bit_at nets l.fn.start);
  declares : (registers : ℕ) → all_rest_below registers l.parts ≡ true → Has registers l.fn.wires l.fn.start → DeclaresRests registers l.fn.wires l.fn.rests.items →
      DeclaresRests registers l.wires l.rests.items × Has registers l.wires l.start × Has registers l.wires l.ends;
}
