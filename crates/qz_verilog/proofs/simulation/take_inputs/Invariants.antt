use Rattle.std.proofs.Common.{◌≡◌, take, drop, ◌++◌}
use Rattle.qz_verilog.specs.Validity.{port_types}
use Rattle.qz_verilog.specs.Simulation.{row_of}
use Rattle.qz_verilog.proofs.simulation.take_inputs.Given as goal

-- those that are taken, and those that are left
abbrev pub invariant-loop-number : goal.invariant-loop-number
invariant-loop-number l =
    take l.number l.values ++ row_of (port_types (drop l.number l.ports)) (drop l.number l.numbers) ≡ row_of (port_types l.ports) l.numbers
