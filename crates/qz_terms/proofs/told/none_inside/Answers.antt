use Rattle.qz_terms.proofs.told.none_inside.Goals as goal

pub returns-clause-inside : goal.returns-clause-inside
returns-clause-inside c = λ v views.
    let at_inside = c.in_ok-done.ensures.grows.views v views in
    c.in_ok-inside.ensures.means v at_inside

pub returns-clause-ended : goal.returns-clause-ended
returns-clause-ended c = λ v views.
    c.in_ok-done.ensures.means v views

pub returns-clause-ends : goal.returns-clause-ends
returns-clause-ends c = λ v views.
    c.in_ok-done.ensures.means v views
