-- What is written, with the lines that are still to come, is all that is wanted.
use Rattle.std.proofs.Common.{◌≡◌, ◌++◌, drop, string_bytes}
use Rattle.qz_vtext.specs.Lines.{numbered, register_lines}
use Rattle.qz_vtext.specs.Text.{joined}
use Rattle.qz_vtext.proofs.write.registers.Given as goal

abbrev pub invariant-loop-number : goal.invariant-loop-number
invariant-loop-number l =
    string_bytes l.text ++ joined (numbered register_lines l.number (drop l.number l.regs))
    ≡ string_bytes l.initial.text ++ joined (numbered register_lines 0 l.regs)
