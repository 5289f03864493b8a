-- What is written, with the lines that are still to come, is all that is wanted.
use Rattle.std.proofs.Common.{◌≡◌, ◌++◌, drop, string_bytes}
use Rattle.qz_vtext.specs.Lines.{numbered, next_lines}
use Rattle.qz_vtext.specs.Text.{joined}
use Rattle.qz_vtext.proofs.write.next_values.Given as goal

abbrev pub invariant-loop-number : goal.invariant-loop-number
invariant-loop-number l =
    string_bytes l.text ++ joined (numbered (next_lines l.pen.inputs.now) l.number (drop l.number l.nexts))
    ≡ string_bytes l.initial.text ++ joined (numbered (next_lines l.pen.inputs.now) 0 l.nexts)
