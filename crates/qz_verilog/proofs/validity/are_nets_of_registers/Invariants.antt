use Rattle.std.proofs.Common.{drop, ◌↔◌}
use Rattle.qz_verilog.specs.Validity.{declared_types, register_types, AreNetsOf}
use Rattle.qz_verilog.proofs.validity.are_nets_of_registers.Given as goal

-- what is left to check decides
abbrev pub invariant-loop-number : goal.invariant-loop-number
invariant-loop-number l =
    AreNetsOf (declared_types l.declared.inputs.now l.declared.regs.now l.declared.wires.now) (register_types (drop l.number l.regs)) (drop l.number l.nets)
    ↔ AreNetsOf (declared_types l.declared.inputs.now l.declared.regs.now l.declared.wires.now) (register_types l.regs) l.nets
