use Rattle.std.proofs.Common.{◌≡◌, drop}
use Rattle.qz_system.specs.Parts.{go_on}
use Rattle.qz_system.proofs.ordered.go_on.Given as goal

abbrev pub invariant-loop-next : goal.invariant-loop-next
invariant-loop-next l = go_on l.last (drop l.next-index l.others) ≡ go_on l.one l.others
