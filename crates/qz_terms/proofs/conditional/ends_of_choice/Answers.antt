use Rattle.std.proofs.Common.{refl}
use Rattle.qz_terms.proofs.conditional.ends_of_choice.Goals as goal

pub returns-clause-means : goal.returns-clause-means
returns-clause-means c = λ v views.
    let at_other = c.in_ok-id.ensures.grows.views v views in
    let at_one = c.in_ok-other.ensures.grows.views v at_other in
    let at_not = c.in_ok-one.ensures.grows.views v at_one in
    rw (
      c.in_ok-id.ensures.means v views,
      c.in_ok-one.ensures.means v at_one,
      c.in_ok-other.ensures.means v at_other,
      c.in_ok-not.ensures.means v at_not,
    ) refl
