use Rattle.qz_meaning.proofs.Preemptions.{leaves_at_once}
use Rattle.qz_meaning.proofs.examples.leaves_at_once.Goals as goal

pub returns : goal.returns
returns c = leaves_at_once
