use Rattle.qz_control.proofs.Resumes.{walk_is}
use Rattle.qz_control.proofs.laws.mirrors_walk_as_the_statement.Goals as goal

pub returns : goal.returns
returns c = λ m scene answers s ready. walk_is m scene answers s ready
