use Rattle.std.proofs.Common.{◌≡◌, drop}
use Rattle.std.specs.List.{flat_map}
use Rattle.qz_types.specs.Faults.{first_with}
use Rattle.qz_types.specs.Declarations.{formal_faults}
use Rattle.qz_types.proofs.file_faults.proto_formals.Given as goal

abbrev pub invariant-loop-proto : goal.invariant-loop-proto
invariant-loop-proto l =
    first_with l.first.fault (flat_map (λ proto. formal_faults proto.formals) (drop l.proto-index l.file_protos))
    ≡ first_with l.initial.first.fault (flat_map (λ proto. formal_faults proto.formals) l.file_protos)
