use Rattle.std.proofs.Common.{◌≡◌, ap, ◌∙◌, ◌||◌}
use Rattle.std.specs.List.{list_any}
use Rattle.qz_values.specs.declared.Ty.{Ty}
use Rattle.qz_values.specs.Types.{is_same_type}
use Rattle.qz_verilog.specs.Validity.{port_types, register_types, wire_types}
use Rattle.qz_vread.specs.RightSides.{types_of}
use Rattle.qz_vread.specs.TypeSets.{has}
use Rattle.qz_vread.proofs.TypesFound.{among, nothing_has, gathered, no_types, all_have}
use Rattle.qz_vread.proofs.driven.are_driven.Goals as goal

pub returns : goal.returns
returns c =
    let regs = register_types c.args.nets.now.regs.now in
    let wires = wire_types c.args.nets.now.wires.now in
    let same : (t : Ty) → has c.add_wires.new.self t ≡ among (types_of c.args.nets.now) t =
    λ t. gathered (port_types c.inputs.result.now) regs wires nothing_has c.add_inputs.new.self c.add_registers.new.self c.add_wires.new.self
    c.add_inputs.ensures c.add_registers.ensures c.add_wires.ensures no_types t
    ∙ ap (λ ports. (list_any (λ u. is_same_type t u) (port_types ports) || list_any (λ u. is_same_type t u) regs) || list_any (λ u. is_same_type t u) wires) c.inputs.ensures in
    rw c.have_each.ensures (all_have (types_of c.args.nets.now) (λ t. has c.add_wires.new.self t) (port_types c.args.outputs.now) same)
