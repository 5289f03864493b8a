use Rattle.std.proofs.Common.{arith}
use Rattle.std.proofs.lemmas.Option.{slice_get_within}
use Rattle.qz_nets.specs.Readings.{listed}
use Rattle.qz_nets.proofs.Growing.{entry_of_net}
use Rattle.qz_nets.proofs.Solving.{next_read, next_known}
use Rattle.qz_nets.proofs.table.NetTable.eval_into.Goals as goal

pub known-requires : goal.known-requires
known-requires c =
    let table = c.args.self.now in
    next_read table.nets.entries table.sound (listed c.args.leaves.now) c.requires.leaves c.loop-number.values c.loop-number.number
    c.loop-number.invariant c.get.result.now c.get.ensures

pub loop-number-preserved : goal.loop-number-preserved
loop-number-preserved c =
    let table = c.args.self.now in
    next_known table.nets.entries table.sound (listed c.args.leaves.now) c.requires.leaves c.loop-number.values c.loop-number.number
    c.loop-number.invariant c.get.result.now c.get.ensures c.known.result c.known.ensures

pub returns-clause-reads : goal.returns-clause-reads
returns-clause-reads c = record {
  leaves = c.requires.leaves;
  nets = λ n m h.
      let e = entry_of_net _ m h in
      let within = slice_get_within c.args.self.now.nets.entries n (m, e.0) e.1 in
      c.loop-number.invariant.solved n m (omega (arith, within, c.loop-number-test.false, c.len-number-end.ensures)) h;
}
