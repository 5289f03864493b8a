use Rattle.std.proofs.Common.{sym}
use Rattle.std.proofs.lemmas.Bool.{eqb-true}
use Rattle.qz_values.specs.declared.Op2.TheVariants.{And}
use Rattle.qz_nets.specs.declared.net.Net.TheVariants as net
use Rattle.qz_nets.proofs.Folding.{and_same, and_left, and_right, added}
use Rattle.qz_nets.proofs.table.NetTable.and.Goals as goal

pub returns-then-eq-clause-means : goal.returns-then-eq-clause-means
returns-then-eq-clause-means c = λ v reads.
    and_same c.args.self.now v reads c.args.a.0 c.args.b.0 (eqb-true c.args.a.0 c.args.b.0 (sym c.if-eq.ensures)) c.requires.left

pub returns-then-is_constant-clause-means : goal.returns-then-is_constant-clause-means
returns-then-is_constant-clause-means c = λ v reads.
    and_right c.args.self.now v reads c.args.a.0 c.args.b.0 c.requires.left (c.is_constant.ensures c.if-is_constant.true)

pub returns-then-is_constant-2-clause-means : goal.returns-then-is_constant-2-clause-means
returns-then-is_constant-2-clause-means c = λ v reads.
    and_left c.args.self.now v reads c.args.a.0 c.args.b.0 c.requires.right (c.is_constant-2.ensures c.if-is_constant-2.true)

pub returns-clause-means : goal.returns-clause-means
returns-clause-means c = added c.add.new.self (net.Bin And c.args.a c.args.b) c.add.result c.add.ensures.net
