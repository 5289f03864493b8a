use Rattle.std.proofs.Common.{◌≡◌, length, map, take}
use Rattle.qz_interp.specs.Keeping.{value_of_known}
use Rattle.qz_interp.proofs.keeping.give_outputs.Given as goal

abbrev pub invariant-loop-number : goal.invariant-loop-number
invariant-loop-number l = length l.outputs ≡ length l.known → take l.number l.outputs ≡ map value_of_known (take l.number l.known)
