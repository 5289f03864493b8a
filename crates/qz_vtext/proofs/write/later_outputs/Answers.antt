use Rattle.std.proofs.Common.{arith}
use Rattle.qz_vtext.specs.Lines.{output_text}
use Rattle.qz_vtext.proofs.Written.{later_written}
use Rattle.qz_vtext.proofs.write.later_outputs.Goals as goal

pub loop-output-preserved : goal.loop-output-preserved
loop-output-preserved c =
    later_written output_text c.args.outputs.now c.loop-output.output-index c.output-item.result _ _ _ c.output-item.is (omega arith)
    c.loop-output.invariant c.in_ok-later_output.ensures
