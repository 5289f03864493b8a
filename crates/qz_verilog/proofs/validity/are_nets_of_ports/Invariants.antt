use Rattle.std.proofs.Common.{drop, ◌↔◌}
use Rattle.qz_verilog.specs.Validity.{declared_types, port_types, AreNetsOf}
use Rattle.qz_verilog.proofs.validity.are_nets_of_ports.Given as goal

-- what is left to check decides
abbrev pub invariant-loop-number : goal.invariant-loop-number
invariant-loop-number l =
    AreNetsOf (declared_types l.declared.inputs.now l.declared.regs.now l.declared.wires.now) (port_types (drop l.number l.ports)) (drop l.number l.nets)
    ↔ AreNetsOf (declared_types l.declared.inputs.now l.declared.regs.now l.declared.wires.now) (port_types l.ports) l.nets
