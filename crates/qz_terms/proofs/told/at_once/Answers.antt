use Rattle.std.proofs.Common.{refl}
use Rattle.qz_terms.proofs.told.at_once.Goals as goal

pub returns-clause-inside : goal.returns-clause-inside
returns-clause-inside c = λ v views.
    let at_inside = c.in_ok-ends.ensures.grows.views v views in
    c.in_ok-inside.ensures.means v at_inside

pub returns-clause-ended : goal.returns-clause-ended
returns-clause-ended c = λ v views.
    let at_inside = c.in_ok-ends.ensures.grows.views v views in
    let at_ended = c.in_ok-inside.ensures.grows.views v at_inside in
    let at_together = c.in_ok-ended.ensures.grows.views v at_ended in
    rw (
      c.in_ok-ended.ensures.means v at_ended,
      c.in_ok-together.ensures.means v at_together,
    ) refl

pub returns-clause-ends : goal.returns-clause-ends
returns-clause-ends c = λ v views.
    c.in_ok-ends.ensures.means v views
