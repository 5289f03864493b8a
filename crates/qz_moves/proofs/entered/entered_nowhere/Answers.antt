use Rattle.qz_moves.proofs.entered.entered_nowhere.Goals as goal

pub returns-clause-ends : goal.returns-clause-ends
returns-clause-ends c = λ v views. c.in_ok-ends.ensures.means v (c.in_ok-rests.ensures.grows.views v views)
