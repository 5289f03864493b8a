use Rattle.std.proofs.Common.{[], take}
use Rattle.qz_verilog.proofs.Settling.{SettlesFrom}
use Rattle.qz_verilog.proofs.wires.settle.Given as goal

-- the wires so far are settled
abbrev pub invariant-loop-number : goal.invariant-loop-number
invariant-loop-number l = SettlesFrom l.registers l.inputs [] (take l.number l.m.wires) (take l.number l.values)
