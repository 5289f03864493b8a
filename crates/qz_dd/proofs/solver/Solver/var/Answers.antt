use Rattle.std.proofs.Common.{◌∙◌, false, get_or}
use Rattle.qz_dd.proofs.Meaning.{value-false, value-true}
use Rattle.qz_dd.proofs.Growing.{cond_of}
use Rattle.qz_dd.proofs.solver.Solver.var.Goals as goal

pub returns-clause-value : goal.returns-clause-value
returns-clause-value c = λ bits.
    let nodes = c.make.new.self.table.nodes.keys in
    c.in_ok-made.ensures.made.value bits ∙ cond_of (get_or bits c.args.v false) _ _ (value-true nodes bits) (value-false nodes bits)

pub returns-clause-means : goal.returns-clause-means
returns-clause-means c = λ reading reads.
    reads.each c.in_ok-made.made.0 c.in_ok-made.ensures.made.below ∙ returns-clause-value c reading.bits
