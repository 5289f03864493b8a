use Rattle.std.proofs.Common.{◌≡◌, ◌++◌, drop}
use Rattle.qz_closing.specs.ProgramParts.{ports_in}
use Rattle.qz_single.proofs.ports.ports_in.Given as goal

abbrev pub invariant-loop-formal : goal.invariant-loop-formal
invariant-loop-formal l = l.ports ++ ports_in l.side (drop l.formal-index l.formals) ≡ ports_in l.side l.formals
