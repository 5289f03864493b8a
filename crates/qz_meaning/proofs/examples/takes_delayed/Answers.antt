use Rattle.qz_meaning.proofs.TakesDelayed.{takes_delayed}
use Rattle.qz_meaning.proofs.examples.takes_delayed.Goals as goal

pub returns : goal.returns
returns c = takes_delayed
