use Rattle.std.proofs.Common.{ap, ◌∙◌, sym, not}
use Rattle.qz_first.proofs.wires.Wires.not.Goals as goal

pub returns-in_ok-inverted-in-Some-clause-means : goal.returns-in_ok-inverted-in-Some-clause-means
returns-in_ok-inverted-in-Some-clause-means c = λ nets reads.
    c.in_ok-inverted-in-Some.ensures.means nets reads ∙ ap not (sym (c.in-Some.ensures nets (c.constant.ensures.extends.reads nets reads)))
