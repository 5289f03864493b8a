use Rattle.std.proofs.Common.{refl}
use Rattle.qz_depth.proofs.guards.guard_of_turn.Goals as goal

pub returns-clause-means : goal.returns-clause-means
returns-clause-means c = λ v views.
    rw (c.in_ok-id.ensures.means v views, c.in_ok-done.ensures.means v (c.in_ok-id.ensures.grows.views v views)) refl
