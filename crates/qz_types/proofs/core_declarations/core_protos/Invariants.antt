use Rattle.std.proofs.Common.{◌≡◌, map, take}
use Rattle.qz_types.specs.CoreDeclarations.{core_proto}
use Rattle.qz_types.proofs.core_declarations.core_protos.Given as goal

abbrev pub invariant-loop-proto : goal.invariant-loop-proto
invariant-loop-proto l = l.core ≡ map core_proto (take l.proto-index l.protos)
