use Rattle.qz_control.proofs.Lively.{away_shown}
use Rattle.qz_control.proofs.laws.nets_show_nothing_where_control_is_away.Goals as goal

pub returns : goal.returns
returns c = λ m scene s ready b away ctx act. away_shown m scene s ready b away ctx act
