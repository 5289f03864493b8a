use Rattle.std.proofs.Common.{◌≡◌, drop}
use Rattle.std.specs.List.{flat_map}
use Rattle.qz_types.specs.Faults.{first_with}
use Rattle.qz_types.specs.WrittenTypes.{type_faults}
use Rattle.qz_types.proofs.declarations.formal_widths.Given as goal

abbrev pub invariant-loop-formal : goal.invariant-loop-formal
invariant-loop-formal l =
    first_with l.first.fault (flat_map (λ formal. type_faults formal.ty) (drop l.formal-index l.formals))
    ≡ first_with l.initial.first.fault (flat_map (λ formal. type_faults formal.ty) l.formals)
