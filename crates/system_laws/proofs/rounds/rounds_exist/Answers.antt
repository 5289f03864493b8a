use Rattle.system_laws.proofs.OneRound.{rounds_exist}
use Rattle.system_laws.proofs.rounds.rounds_exist.Goals as goal

pub returns : goal.returns
returns c = rounds_exist
