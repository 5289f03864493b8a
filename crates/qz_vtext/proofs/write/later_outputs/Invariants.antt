-- What is written, with the ports that are still to come, is all that is wanted.
use Rattle.std.proofs.Common.{◌≡◌, ◌++◌, map, drop, string_bytes}
use Rattle.qz_vtext.specs.Lines.{output_text}
use Rattle.qz_vtext.specs.Writing.{later_ports}
use Rattle.qz_vtext.proofs.write.later_outputs.Given as goal

abbrev pub invariant-loop-output : goal.invariant-loop-output
invariant-loop-output l =
    string_bytes l.text ++ later_ports (map output_text (drop l.output-index l.outputs))
    ≡ string_bytes l.initial.text ++ later_ports (map output_text l.outputs)
