-- What is written, with the ports that are still to come, is all that is wanted.
use Rattle.std.proofs.Common.{◌≡◌, ◌++◌, map, drop, string_bytes}
use Rattle.qz_vtext.specs.Lines.{input_text}
use Rattle.qz_vtext.specs.Writing.{later_ports}
use Rattle.qz_vtext.proofs.write.later_inputs.Given as goal

abbrev pub invariant-loop-input : goal.invariant-loop-input
invariant-loop-input l =
    string_bytes l.text ++ later_ports (map input_text (drop l.input-index l.inputs))
    ≡ string_bytes l.initial.text ++ later_ports (map input_text l.inputs)
