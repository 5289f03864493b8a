use Rattle.std.proofs.Common.{◌≡◌, drop}
use Rattle.std.specs.List.{flat_map}
use Rattle.qz_types.specs.Faults.{first_with}
use Rattle.qz_types.specs.WrittenTypes.{type_faults}
use Rattle.qz_types.proofs.declarations.local_widths.Given as goal

abbrev pub invariant-loop-decl : goal.invariant-loop-decl
invariant-loop-decl l =
    first_with l.first.fault (flat_map (λ decl. type_faults decl.ty) (drop l.decl-index l.decls))
    ≡ first_with l.initial.first.fault (flat_map (λ decl. type_faults decl.ty) l.decls)
