use Rattle.qz_moves.proofs.Appending.{tests_grow, rested, tests_rested}
use Rattle.qz_moves.proofs.pauses.enter_pause.Goals as goal

pub returns-clause-spots : goal.returns-clause-spots
returns-clause-spots c = λ v views. rested v _ _ _ _ c.in_ok-rest_at.ensures

pub returns-clause-tests : goal.returns-clause-tests
returns-clause-tests c = λ before. tests_grow _ _ _ c.in_ok-ends.ensures.grows (tests_rested _ _ _ _ _ c.in_ok-rest_at.ensures c.requires.start before)
