use Rattle.qz_meaning.proofs.EmitsInOneRun.{emits_in_one_run}
use Rattle.qz_meaning.proofs.examples.emits_in_one_run.Goals as goal

pub returns : goal.returns
returns c = emits_in_one_run
