use Rattle.std.proofs.Common.{refl}
use Rattle.qz_terms.proofs.told.next_guard.Goals as goal

pub returns-clause-means : goal.returns-clause-means
returns-clause-means c = λ v views.
    let at_started = c.in_ok-id.ensures.grows.views v views in
    let at_resumed = c.in_ok-started.ensures.grows.views v at_started in
    rw (
      c.in_ok-id.ensures.means v views,
      c.in_ok-resumed.ensures.means v at_resumed,
      c.in_ok-started.ensures.means v at_started,
    ) refl
