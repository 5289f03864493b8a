use Rattle.std.proofs.Common.{refl}
use Rattle.qz_terms.proofs.conditional.ends_of_suspend.Goals as goal

pub returns-in_ok-id-clause-means : goal.returns-in_ok-id-clause-means
returns-in_ok-id-clause-means c = λ v views.
    rw (
      c.if-kind.true,
      c.in_ok-id.ensures.means v views,
      c.in_ok-not.ensures.means v (c.in_ok-id.ensures.grows.views v views),
    ) refl
