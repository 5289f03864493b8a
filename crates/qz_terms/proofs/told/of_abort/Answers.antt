use Rattle.std.proofs.Common.{refl}
use Rattle.qz_terms.proofs.told.of_abort.Goals as goal

pub returns-clause-ended : goal.returns-clause-ended
returns-clause-ended c = λ v views.
    let at_ended = c.in_ok-ends.ensures.grows.views v views in
    let at_done = c.in_ok-ended.ensures.grows.views v at_ended in
    rw (
      c.in_ok-ended.ensures.means v at_ended,
      c.in_ok-done.ensures.means v at_done,
    ) refl

pub returns-clause-ends : goal.returns-clause-ends
returns-clause-ends c = λ v views.
    c.in_ok-ends.ensures.means v views
