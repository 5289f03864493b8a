use Rattle.qz_nets.specs.Readings.{listed}
use Rattle.qz_nets.proofs.Solving.{First}
use Rattle.qz_nets.proofs.table.NetTable.eval_into.Given as goal

-- the nets before this one are known
abbrev pub invariant-loop-number : goal.invariant-loop-number
invariant-loop-number l = First l.self.nets.entries l.self.sound (listed l.leaves) l.values l.number
