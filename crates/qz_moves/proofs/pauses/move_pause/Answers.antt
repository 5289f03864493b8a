use Rattle.std.proofs.Common.{refl}
use Rattle.qz_control.proofs.Growing.{through}
use Rattle.qz_moves.proofs.Appending.{tests_grow, rested, tests_rested}
use Rattle.qz_moves.proofs.pauses.move_pause.Goals as goal

pub returns-clause-inside : goal.returns-clause-inside
returns-clause-inside c = λ v views. c.in_ok-terms.ensures.inside v (c.in_ok-rests.ensures.grows.views v views)

pub returns-clause-ended : goal.returns-clause-ended
returns-clause-ended c = λ v views. c.in_ok-terms.ensures.ended v (c.in_ok-rests.ensures.grows.views v views)

pub returns-clause-ends : goal.returns-clause-ends
returns-clause-ends c = λ v views. c.in_ok-terms.ensures.ends v (c.in_ok-rests.ensures.grows.views v views)

pub returns-clause-rests : goal.returns-clause-rests
returns-clause-rests c = λ v views.
    rw (c.in_ok-rests.ensures.means v views, c.in_ok-terms.ensures.inside v (c.in_ok-rests.ensures.grows.views v views)) refl

pub returns-clause-spots : goal.returns-clause-spots
returns-clause-spots c = λ v views.
    rw (rested v _ _ _ _ c.in_ok-rest_at.ensures, c.in_ok-rests.ensures.means v views, c.in_ok-terms.ensures.inside v (c.in_ok-rests.ensures.grows.views v views)) refl

pub returns-clause-tests : goal.returns-clause-tests
returns-clause-tests c = λ before.
    tests_rested _ _ _ _ _ c.in_ok-rest_at.ensures c.in_ok-rests.ensures.ty
    (tests_grow _ _ _ (through _ _ _ c.in_ok-terms.ensures.grows c.in_ok-rests.ensures.grows) before)
