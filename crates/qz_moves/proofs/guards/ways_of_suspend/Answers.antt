use Rattle.std.proofs.Common.{refl}
use Rattle.qz_moves.proofs.guards.ways_of_suspend.Goals as goal

pub returns-clause-stay : goal.returns-clause-stay
returns-clause-stay c = λ v views.
    let at_still = c.in_ok-on.ensures.grows.views v views in
    rw (c.in_ok-still.ensures.means v at_still, c.in_ok-suspended.ensures.means v (c.in_ok-still.ensures.grows.views v at_still)) refl
