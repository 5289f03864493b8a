use Rattle.qz_meaning.proofs.Solutions.{solution_above, no_clash, solution_agrees, least_is_solution}
use Rattle.qz_meaning.proofs.laws.the_least_is_the_only_solution.Goals as goal

pub returns-clause-above : goal.returns-clause-above
returns-clause-above c = solution_above

pub returns-clause-unclashed : goal.returns-clause-unclashed
returns-clause-unclashed c = no_clash

pub returns-clause-agree : goal.returns-clause-agree
returns-clause-agree c = solution_agrees

pub returns-clause-solves : goal.returns-clause-solves
returns-clause-solves c = λ p own d row. least_is_solution p d row own
