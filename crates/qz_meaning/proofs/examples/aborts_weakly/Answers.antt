use Rattle.qz_meaning.proofs.Preemptions.{aborts_weakly}
use Rattle.qz_meaning.proofs.examples.aborts_weakly.Goals as goal

pub returns : goal.returns
returns c = aborts_weakly
