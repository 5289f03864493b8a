-- The types so far were added.
use Rattle.std.proofs.Common.{map, take}
use Rattle.qz_values.specs.declared.Ty.{Ty}
use Rattle.qz_verilog.specs.declared.nets.Rhs.{Rhs}
use Rattle.qz_vread.specs.TypeSets.{Adds}
use Rattle.qz_vread.proofs.driven.TypeSet.add_wires.Given as goal

abbrev pub invariant-loop-ty : goal.invariant-loop-ty
invariant-loop-ty l = Adds l.fn.self l.self (map (λ (w : Ty × Rhs). w.0) (take l.ty-index l.wires))
