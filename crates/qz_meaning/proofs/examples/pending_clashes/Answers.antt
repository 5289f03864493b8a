use Rattle.qz_meaning.proofs.Clashing.{pending_clashes}
use Rattle.qz_meaning.proofs.examples.pending_clashes.Goals as goal

pub returns : goal.returns
returns c = pending_clashes
