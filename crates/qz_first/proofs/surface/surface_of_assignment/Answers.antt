use Rattle.qz_first.proofs.Growing.{through}
use Rattle.qz_first.proofs.surface.surface_of_assignment.Goals as goal

pub returns-clause-extends : goal.returns-clause-extends
returns-clause-extends c = through _ _ _ c.in_ok-assign.ensures.extends c.constant.ensures.extends

pub returns-clause-means : goal.returns-clause-means
returns-clause-means c = λ nets reads. c.in_ok-assign.ensures.means nets (c.constant.ensures.extends.reads nets reads)
