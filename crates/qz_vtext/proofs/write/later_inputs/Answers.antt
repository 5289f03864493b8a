use Rattle.std.proofs.Common.{arith}
use Rattle.qz_vtext.specs.Lines.{input_text}
use Rattle.qz_vtext.proofs.Written.{later_written}
use Rattle.qz_vtext.proofs.write.later_inputs.Goals as goal

pub loop-input-preserved : goal.loop-input-preserved
loop-input-preserved c =
    later_written input_text c.args.inputs.now c.loop-input.input-index c.input-item.result _ _ _ c.input-item.is (omega arith)
    c.loop-input.invariant c.in_ok-later_input.ensures
