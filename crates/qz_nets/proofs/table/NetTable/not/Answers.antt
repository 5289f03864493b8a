use Rattle.qz_nets.proofs.Folding.{inner_type, not_inner}
use Rattle.qz_nets.proofs.table.NetTable.not.Goals as goal

pub returns-in-Some-clause-ty : goal.returns-in-Some-clause-ty
returns-in-Some-clause-ty c = inner_type c.args.self.now c.args.a.0 c.in-Some.inner c.requires c.in-Some.ensures

pub returns-in-Some-clause-means : goal.returns-in-Some-clause-means
returns-in-Some-clause-means c = λ v reads.
    not_inner c.args.self.now v reads c.args.a.0 c.in-Some.inner (returns-in-Some-clause-ty c) c.in-Some.ensures
