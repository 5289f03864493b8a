-- What is written, with the lines that are still to come, is all that is wanted.
use Rattle.std.proofs.Common.{◌≡◌, ◌++◌, length, drop, string_bytes}
use Rattle.qz_vtext.specs.Lines.{output_lines}
use Rattle.qz_vtext.specs.Text.{joined}
use Rattle.qz_vtext.proofs.write.outputs.Given as goal

abbrev pub invariant-loop-port : goal.invariant-loop-port
invariant-loop-port l =
    string_bytes l.text ++ joined (output_lines l.pen.inputs.now (drop (length l.yielded) l.ports) (drop (length l.yielded) l.nets))
    ≡ string_bytes l.initial.text ++ joined (output_lines l.pen.inputs.now l.ports l.nets)
