use Rattle.qz_meaning.proofs.Preemptions.{aborts_strongly}
use Rattle.qz_meaning.proofs.examples.aborts_strongly.Goals as goal

pub returns : goal.returns
returns c = aborts_strongly
