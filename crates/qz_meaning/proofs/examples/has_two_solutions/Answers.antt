use Rattle.qz_meaning.proofs.TwoSolutions.{has_two_solutions}
use Rattle.qz_meaning.proofs.examples.has_two_solutions.Goals as goal

pub returns : goal.returns
returns c = has_two_solutions
