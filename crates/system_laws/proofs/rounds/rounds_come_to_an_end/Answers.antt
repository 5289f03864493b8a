use Rattle.system_laws.proofs.Ends.{rounds_end, rounds_stay}
use Rattle.system_laws.proofs.rounds.rounds_come_to_an_end.Goals as goal

pub returns-clause-end : goal.returns-clause-end
returns-clause-end c = rounds_end

pub returns-clause-stay : goal.returns-clause-stay
returns-clause-stay c = rounds_stay
