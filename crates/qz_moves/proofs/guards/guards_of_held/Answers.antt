use Rattle.std.proofs.Common.{refl}
use Rattle.qz_moves.proofs.guards.guards_of_held.Goals as goal

pub returns-clause-here : goal.returns-clause-here
returns-clause-here c = λ v views.
    let at_sides = c.in_ok-here.ensures.grows.views v views in
    let at_from = c.in_ok-sides.ensures.grows.views v at_sides in
    rw (c.in_ok-here.ensures.means v views, c.in_ok-sides.ensures.first v at_sides, c.in_ok-from.ensures.means v at_from) refl

pub returns-clause-body : goal.returns-clause-body
returns-clause-body c = λ v views.
    let at_sides = c.in_ok-here.ensures.grows.views v views in
    let at_from = c.in_ok-sides.ensures.grows.views v at_sides in
    rw (c.in_ok-sides.ensures.second v at_sides, c.in_ok-from.ensures.means v at_from) refl
