use Rattle.std.proofs.Common.{refl}
use Rattle.qz_terms.proofs.told.of_loop.Goals as goal

pub returns-clause-ended : goal.returns-clause-ended
returns-clause-ended c = λ v views.
    let at_ended = c.in_ok-ends.ensures.grows.views v views in
    let at_done = c.in_ok-ended.ensures.grows.views v at_ended in
    let at_not = c.in_ok-done.ensures.grows.views v at_done in
    rw (
      c.in_ok-ended.ensures.means v at_ended,
      c.in_ok-done.ensures.means v at_done,
      c.in_ok-not.ensures.means v at_not,
    ) refl

pub returns-clause-ends : goal.returns-clause-ends
returns-clause-ends c = λ v views.
    c.in_ok-ends.ensures.means v views
