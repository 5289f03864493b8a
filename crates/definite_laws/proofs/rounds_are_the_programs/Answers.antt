use Rattle.definite_laws.proofs.RoundNumbers.{rounds_are_alike}
use Rattle.definite_laws.proofs.rounds_are_the_programs.Goals as goal

pub returns : goal.returns
returns c = rounds_are_alike
