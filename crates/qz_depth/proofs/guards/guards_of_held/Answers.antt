use Rattle.std.proofs.Common.{refl}
use Rattle.qz_depth.proofs.guards.guards_of_held.Goals as goal

pub returns-clause-act : goal.returns-clause-act
returns-clause-act c = λ v views.
    let at_from = c.in_ok-started.ensures.grows.views v views in
    let at_alive = c.in_ok-from.ensures.grows.views v at_from in
    c.in_ok-resumed.ensures.means v (c.in_ok-alive.ensures.grows.views v at_alive)

pub returns-clause-live : goal.returns-clause-live
returns-clause-live c = λ v views.
    let at_from = c.in_ok-started.ensures.grows.views v views in
    c.in_ok-alive.ensures.means v (c.in_ok-from.ensures.grows.views v at_from)

pub returns-clause-start : goal.returns-clause-start
returns-clause-start c = λ v views.
    rw (c.in_ok-started.ensures.means v views, c.in_ok-from.ensures.means v (c.in_ok-started.ensures.grows.views v views)) refl
