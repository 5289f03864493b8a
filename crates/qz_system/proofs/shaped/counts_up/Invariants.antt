use Rattle.std.proofs.Common.{◌≡◌, drop}
use Rattle.qz_system.specs.Parts.{counts_up}
use Rattle.qz_system.proofs.shaped.counts_up.Given as goal

abbrev pub invariant-loop-number : goal.invariant-loop-number
invariant-loop-number l = counts_up l.next l.end (drop l.number-index l.numbers) ≡ counts_up l.from l.end l.numbers
