use Rattle.qz_vread.proofs.NetsRead.{an_input_net, no_register_net, a_register_net, no_wire_net, a_wire_net}
use Rattle.qz_vread.proofs.nets.Nets.net.Goals as goal

pub returns-in-Some : goal.returns-in-Some
returns-in-Some c = an_input_net c.args.self.now.ports.now.inputs c.args.self.now.regs.now c.args.self.now.wires.now c.args.bytes.now c.in-Some.name.now c.in_ok-input.field-0 c.in-Some.ensures c.in_ok-input.ensures

pub returns-in_err-number_below : goal.returns-in_err-number_below
returns-in_err-number_below c =
    rw c.from_residual-in_err-number_below.ensures (no_register_net c.args.self.now.ports.now.inputs c.args.self.now.regs.now c.args.self.now.wires.now c.args.bytes.now c.in-Some-strip.digits.now c.in-Some-strip.ensures c.in_err-number_below.ensures)

pub returns-in-Some-strip : goal.returns-in-Some-strip
returns-in-Some-strip c = a_register_net c.args.self.now.ports.now.inputs c.args.self.now.regs.now c.args.self.now.wires.now c.args.bytes.now c.in-Some-strip.digits.now c.in_ok-number_below.field-0 c.in-Some-strip.ensures c.in_ok-number_below.ensures

pub returns-in_err-number_below-2 : goal.returns-in_err-number_below-2
returns-in_err-number_below-2 c =
    rw c.from_residual-in_err-number_below-2.ensures (no_wire_net c.args.self.now.ports.now.inputs c.args.self.now.regs.now c.args.self.now.wires.now c.args.bytes.now c.in_ok-strip.field-0.now c.in_ok-strip.ensures c.in_err-number_below-2.ensures)

pub returns : goal.returns
returns c = a_wire_net c.args.self.now.ports.now.inputs c.args.self.now.regs.now c.args.self.now.wires.now c.args.bytes.now c.in_ok-strip.field-0.now c.in_ok-number_below-2.field-0 c.in_ok-strip.ensures c.in_ok-number_below-2.ensures
