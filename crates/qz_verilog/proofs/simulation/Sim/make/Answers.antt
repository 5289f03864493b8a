use Rattle.std.proofs.Common.{refl}
use Rattle.qz_verilog.proofs.KeepingTypes.{AreOf-values}
use Rattle.qz_verilog.proofs.simulation.Sim.make.Goals as goal

pub invariant_of-result : goal.invariant_of-result
invariant_of-result c = record {
  valid = c.requires;
  typed = rw (c.in_ok-registers.ensures.items, c.as_slice.ensures) (AreOf-values c.args.m.regs c.requires.registers);
  input_room = rw (c.in_ok-inputs.ensures, c.len.ensures) refl;
  wire_room = rw (c.in_ok-wires.ensures, c.len-2.ensures) refl;
  next_room = rw (c.in_ok-nexts.ensures, c.len-3.ensures) refl;
}
