use Rattle.qz_vread.specs.Drafts.{IsRegisterPart, IsNetStep, Takes}
use Rattle.qz_vread.proofs.Taking.{if_ok}
use Rattle.qz_vread.proofs.NetSteps.{register_taken, wire_taken}
use Rattle.qz_vread.proofs.drafts.Draft.take_net.Goals as goal

pub returns-in-Some : goal.returns-in-Some
returns-in-Some c =
    if_ok (λ taken. Takes (IsRegisterPart c.args.self.now c.in-Some.text.now) c.take_register.new.self taken) (λ taken. Takes (IsNetStep c.args.self.now c.args.line.now) c.take_register.new.self taken)
    c.take_register.result c.take_register.ensures (λ taken t. register_taken c.args.self.now c.take_register.new.self c.args.line.now c.in-Some.text.now taken c.in-Some.ensures t)

pub returns-in-Some-strip : goal.returns-in-Some-strip
returns-in-Some-strip c = wire_taken c.args.self.now c.take_wire.new.self c.args.line.now c.in-Some-strip.text.now c.take_wire.result c.in-Some-strip.ensures c.take_wire.ensures
