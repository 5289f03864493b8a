use Rattle.qz_first.proofs.DoingPrograms.{implementation_is_valid, implementation_does_program}
use Rattle.qz_first.proofs.first_runs.an_implementation_does_the_program.Goals as goal

pub returns-clause-does : goal.returns-clause-does
returns-clause-does c = implementation_does_program

pub returns-clause-valid : goal.returns-clause-valid
returns-clause-valid c = implementation_is_valid
