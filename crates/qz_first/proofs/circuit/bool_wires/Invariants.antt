use Rattle.std.proofs.Common.{◌≡◌, map, take}
use Rattle.qz_first.specs.BitNets.{bool_wire}
use Rattle.qz_first.proofs.circuit.bool_wires.Given as goal

abbrev pub invariant-loop-right : goal.invariant-loop-right
invariant-loop-right l = l.wires ≡ map bool_wire (take l.right-index l.rights)
