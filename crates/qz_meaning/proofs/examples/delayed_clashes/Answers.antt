use Rattle.qz_meaning.proofs.Clashing.{delayed_clashes}
use Rattle.qz_meaning.proofs.examples.delayed_clashes.Goals as goal

pub returns : goal.returns
returns c = delayed_clashes
