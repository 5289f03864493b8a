use Rattle.qz_terms.proofs.told.passing.Goals as goal

pub returns-clause-inside : goal.returns-clause-inside
returns-clause-inside c = λ v views.
    let at_never = c.in_ok-ends.ensures.grows.views v views in
    c.in_ok-never.ensures.means v at_never

pub returns-clause-ended : goal.returns-clause-ended
returns-clause-ended c = λ v views.
    let at_never = c.in_ok-ends.ensures.grows.views v views in
    c.in_ok-never.ensures.means v at_never

pub returns-clause-ends : goal.returns-clause-ends
returns-clause-ends c = λ v views.
    c.in_ok-ends.ensures.means v views
