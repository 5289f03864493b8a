use Rattle.qz_nets.specs.Readings.{listed}
use Rattle.qz_nets.proofs.Solving.{FirstFit}
use Rattle.qz_nets.proofs.table.NetTable.takes.Given as goal

abbrev pub invariant-loop-number : goal.invariant-loop-number
invariant-loop-number l = FirstFit l.self.nets.entries (listed l.leaves) l.number
