-- The types so far were added.
use Rattle.std.proofs.Common.{map, take}
use Rattle.qz_values.specs.Values.{type_of}
use Rattle.qz_vread.specs.TypeSets.{Adds}
use Rattle.qz_vread.proofs.driven.TypeSet.add_registers.Given as goal

abbrev pub invariant-loop-register : goal.invariant-loop-register
invariant-loop-register l = Adds l.fn.self l.self (map type_of (take l.register-index l.registers))
