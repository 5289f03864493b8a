use Rattle.std.proofs.Common.{◌≡◌, take, map}
use Rattle.qz_verilog.specs.Meaning.{value_at}
use Rattle.qz_verilog.specs.Runs.{nets_of}
use Rattle.qz_verilog.proofs.simulation.read_nexts.Given as goal

abbrev pub invariant-loop-number : goal.invariant-loop-number
invariant-loop-number l =
    take l.number l.nexts ≡ map (value_at (nets_of l.nets.registers.now l.nets.inputs.now l.nets.wires.now)) (take l.number l.sources)
