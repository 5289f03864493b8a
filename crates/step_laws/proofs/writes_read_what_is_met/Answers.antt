use Rattle.step_laws.proofs.StepReads.{writes_read}
use Rattle.step_laws.proofs.writes_read_what_is_met.Goals as goal

pub returns : goal.returns
returns c = writes_read
