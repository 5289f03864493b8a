use Rattle.std.proofs.Common.{refl}
use Rattle.qz_terms.proofs.told.of_held.Goals as goal

pub returns-clause-inside : goal.returns-clause-inside
returns-clause-inside c = λ v views.
    let at_ended = c.in_ok-inside.ensures.grows.views v views in
    let at_from_hold = c.in_ok-ended.ensures.grows.views v at_ended in
    let at_not = c.in_ok-from_hold.ensures.grows.views v at_from_hold in
    let at_suspend = c.in_ok-not.ensures.grows.views v at_not in
    rw (
      c.in_ok-inside.ensures.means v views,
      c.in_ok-suspend.ensures.inside,
    ) refl

pub returns-clause-ended : goal.returns-clause-ended
returns-clause-ended c = λ v views.
    let at_ended = c.in_ok-inside.ensures.grows.views v views in
    let at_from_hold = c.in_ok-ended.ensures.grows.views v at_ended in
    let at_not = c.in_ok-from_hold.ensures.grows.views v at_from_hold in
    let at_suspend = c.in_ok-not.ensures.grows.views v at_not in
    rw (
      c.in_ok-ended.ensures.means v at_ended,
      c.in_ok-from_hold.ensures.means v at_from_hold,
      c.in_ok-not.ensures.means v at_not,
      c.in_ok-suspend.ensures.ended v at_suspend,
    ) refl

pub returns-clause-ends : goal.returns-clause-ends
returns-clause-ends c = λ v views.
    let at_ended = c.in_ok-inside.ensures.grows.views v views in
    let at_from_hold = c.in_ok-ended.ensures.grows.views v at_ended in
    let at_not = c.in_ok-from_hold.ensures.grows.views v at_from_hold in
    let at_suspend = c.in_ok-not.ensures.grows.views v at_not in
    c.in_ok-suspend.ensures.ends v at_suspend
