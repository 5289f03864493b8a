use Rattle.qz_surface.proofs.Typing.{writes_grow}
use Rattle.qz_depth.proofs.assigned.resume_assignment.Goals as goal

pub returns-clause-writes : goal.returns-clause-writes
returns-clause-writes c = λ v views. c.in_ok-assign.ensures.writes v (c.in_ok-terms.ensures.grows.views v views)

pub returns-clause-typed : goal.returns-clause-typed
returns-clause-typed c = λ before. writes_grow _ _ _ _ c.in_ok-terms.ensures.grows (c.in_ok-assign.ensures.typed before)
