use Rattle.std.proofs.Common.{[], take, drop, ◌↔◌}
use Rattle.qz_verilog.specs.Validity.{declared_types, AreWires}
use Rattle.qz_verilog.proofs.validity.are_wires.Given as goal

-- what is left to check decides
abbrev pub invariant-loop-number : goal.invariant-loop-number
invariant-loop-number l =
    AreWires (declared_types l.inputs l.regs (take l.number l.wires)) (drop l.number l.wires)
    ↔ AreWires (declared_types l.inputs l.regs []) l.wires
