use Rattle.std.proofs.Common.{refl}
use Rattle.qz_terms.proofs.told.where_so.Goals as goal

pub returns-clause-means : goal.returns-clause-means
returns-clause-means c = λ v views.
    let at_never = c.in_ok-id.ensures.grows.views v views in
    rw (
      c.in_ok-id.ensures.means v views,
      c.in_ok-never.ensures.means v at_never,
    ) refl
