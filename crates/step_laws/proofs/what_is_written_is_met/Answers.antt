use Rattle.step_laws.proofs.StepTargets.{written_met}
use Rattle.step_laws.proofs.what_is_written_is_met.Goals as goal

pub returns : goal.returns
returns c = written_met
