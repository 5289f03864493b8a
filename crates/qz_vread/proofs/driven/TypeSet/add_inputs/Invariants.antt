-- The types so far were added.
use Rattle.std.proofs.Common.{map, take}
use Rattle.qz_syntax.specs.declared.declarations.Port.{Port}
use Rattle.qz_vread.specs.TypeSets.{Adds}
use Rattle.qz_vread.proofs.driven.TypeSet.add_inputs.Given as goal

abbrev pub invariant-loop-input : goal.invariant-loop-input
invariant-loop-input l = Adds l.fn.self l.self (map (λ (p : Port). p.ty) (take l.input-index l.inputs))
