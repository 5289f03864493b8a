use Rattle.qz_meaning.proofs.Preemptions.{leaves_after_acting}
use Rattle.qz_meaning.proofs.examples.leaves_after_acting.Goals as goal

pub returns : goal.returns
returns c = leaves_after_acting
