use Rattle.std.proofs.Common.{refl}
use Rattle.qz_moves.proofs.guards.rests_where.Goals as goal

pub returns-clause-means : goal.returns-clause-means
returns-clause-means c = λ v views.
    rw (c.in_ok-id.ensures.means v views, c.in_ok-stayed.ensures.means v (c.in_ok-id.ensures.grows.views v views)) refl
