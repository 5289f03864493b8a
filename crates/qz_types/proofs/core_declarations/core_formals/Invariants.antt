use Rattle.std.proofs.Common.{◌≡◌, map, take}
use Rattle.qz_types.specs.CoreDeclarations.{core_formal}
use Rattle.qz_types.proofs.core_declarations.core_formals.Given as goal

abbrev pub invariant-loop-formal : goal.invariant-loop-formal
invariant-loop-formal l = l.core ≡ map core_formal (take l.formal-index l.formals)
