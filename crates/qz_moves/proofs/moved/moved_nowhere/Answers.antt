use Rattle.qz_moves.proofs.moved.moved_nowhere.Goals as goal

pub returns-clause-inside : goal.returns-clause-inside
returns-clause-inside c = λ v views. c.in_ok-terms.ensures.inside v (c.in_ok-rests.ensures.grows.views v views)

pub returns-clause-ended : goal.returns-clause-ended
returns-clause-ended c = λ v views. c.in_ok-terms.ensures.ended v (c.in_ok-rests.ensures.grows.views v views)

pub returns-clause-ends : goal.returns-clause-ends
returns-clause-ends c = λ v views. c.in_ok-terms.ensures.ends v (c.in_ok-rests.ensures.grows.views v views)
