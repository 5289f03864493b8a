use Rattle.qz_vread.specs.declared.drafts.Stage.TheVariants as stage
use Rattle.qz_vread.specs.Drafts.{IsInputPart, IsOutputPart, IsStepAt, Takes}
use Rattle.qz_vread.proofs.Taking.{if_ok}
use Rattle.qz_vread.proofs.CommaLemmas.{input_taken, output_taken, no_port}
use Rattle.qz_vread.proofs.drafts.Draft.take_port.Goals as goal

pub returns-in-Some : goal.returns-in-Some
returns-in-Some c =
    if_ok (λ taken. Takes (IsInputPart c.args.self.now c.split_comma-stage.result.1 c.in-Some.input.now) c.take_input_port.new.self taken) (λ taken. Takes (IsStepAt stage.Port c.args.self.now c.args.line.now) c.take_input_port.new.self taken)
    c.take_input_port.result c.take_input_port.ensures
    (λ taken t. input_taken c.args.self.now c.take_input_port.new.self c.args.line.now c.split_comma-stage.result.0.now c.in-Some.input.now c.split_comma-stage.result.1 taken c.split_comma-stage.ensures c.in-Some.ensures t)

pub returns-in-Some-strip : goal.returns-in-Some-strip
returns-in-Some-strip c =
    if_ok (λ taken. Takes (IsOutputPart c.args.self.now c.split_comma-stage.result.1 c.in-Some-strip.output.now) c.take_output_port.new.self taken) (λ taken. Takes (IsStepAt stage.Port c.args.self.now c.args.line.now) c.take_output_port.new.self taken)
    c.take_output_port.result c.take_output_port.ensures
    (λ taken t. output_taken c.args.self.now c.take_output_port.new.self c.args.line.now c.split_comma-stage.result.0.now c.in-Some-strip.output.now c.split_comma-stage.result.1 taken c.split_comma-stage.ensures c.in-Some-strip.ensures t)

pub returns-in-None : goal.returns-in-None
returns-in-None c = no_port c.args.self.now c.args.self.now c.args.line.now c.split_comma-stage.result.0.now c.split_comma-stage.result.1 c.split_comma-stage.ensures c.in_default.ensures c.in-None.ensures
