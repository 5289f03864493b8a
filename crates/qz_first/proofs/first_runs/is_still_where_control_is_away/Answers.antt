use Rattle.qz_first.proofs.FirstResuming.{is_still_where_control_is_away}
use Rattle.qz_first.proofs.first_runs.is_still_where_control_is_away.Goals as goal

pub returns : goal.returns
returns c = is_still_where_control_is_away
