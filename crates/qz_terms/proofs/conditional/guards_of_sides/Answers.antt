use Rattle.qz_terms.proofs.conditional.guards_of_sides.Goals as goal

pub returns-clause-first : goal.returns-clause-first
returns-clause-first c = λ v views.
    let at_first = c.in_ok-second.ensures.grows.views v views in
    c.in_ok-first.ensures.means v at_first

pub returns-clause-second : goal.returns-clause-second
returns-clause-second c = λ v views.
    c.in_ok-second.ensures.means v views
