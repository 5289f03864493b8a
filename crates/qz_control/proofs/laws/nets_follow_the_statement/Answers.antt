use Rattle.qz_control.proofs.Following.{nets_follow}
use Rattle.qz_control.proofs.laws.nets_follow_the_statement.Goals as goal

pub returns : goal.returns
returns c = λ m scene s plain ready. nets_follow m scene plain s ready
