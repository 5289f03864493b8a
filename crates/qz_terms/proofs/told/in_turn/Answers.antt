use Rattle.std.proofs.Common.{refl}
use Rattle.qz_terms.proofs.told.in_turn.Goals as goal

pub returns-clause-inside : goal.returns-clause-inside
returns-clause-inside c = λ v views.
    let at_inside = c.in_ok-ends.ensures.grows.views v views in
    c.in_ok-inside.ensures.means v at_inside

pub returns-clause-ended : goal.returns-clause-ended
returns-clause-ended c = λ v views.
    let at_inside = c.in_ok-ends.ensures.grows.views v views in
    let at_ended = c.in_ok-inside.ensures.grows.views v at_inside in
    let at_before = c.in_ok-ended.ensures.grows.views v at_ended in
    let at_passed = c.in_ok-before.ensures.grows.views v at_before in
    rw (
      c.in_ok-ended.ensures.means v at_ended,
      c.in_ok-before.ensures.means v at_before,
      c.in_ok-passed.ensures.means v at_passed,
    ) refl

pub returns-clause-ends : goal.returns-clause-ends
returns-clause-ends c = λ v views.
    c.in_ok-ends.ensures.means v views
