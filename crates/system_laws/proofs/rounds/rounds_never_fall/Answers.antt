use Rattle.system_laws.proofs.OneRound.{rounds_rise}
use Rattle.system_laws.proofs.rounds.rounds_never_fall.Goals as goal

pub returns : goal.returns
returns c = rounds_rise
