use Rattle.std.proofs.Common.{map}
use Rattle.qz_vtext.specs.Lines.{input_text, output_text}
use Rattle.qz_vtext.proofs.Written.{ports_written}
use Rattle.qz_vtext.proofs.write.ports.Goals as goal

pub returns : goal.returns
returns c =
    ports_written (map input_text c.args.inputs.now) (map output_text c.args.outputs.now) _ _ _ _ _
    c.in_ok-push_str.ensures.bytes c.in_ok-later_inputs.ensures c.in_ok-later_outputs.ensures c.in_ok-push_str-2.ensures.bytes
