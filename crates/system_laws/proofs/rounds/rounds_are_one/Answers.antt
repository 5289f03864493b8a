use Rattle.system_laws.proofs.OneRound.{rounds_are_one}
use Rattle.system_laws.proofs.Ends.{lasts_are_one}
use Rattle.system_laws.proofs.rounds.rounds_are_one.Goals as goal

pub returns-clause-rounds : goal.returns-clause-rounds
returns-clause-rounds c = rounds_are_one

pub returns-clause-lasts : goal.returns-clause-lasts
returns-clause-lasts c = lasts_are_one
