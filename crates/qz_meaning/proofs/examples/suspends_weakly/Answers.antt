use Rattle.qz_meaning.proofs.Reentry.{suspends_weakly}
use Rattle.qz_meaning.proofs.examples.suspends_weakly.Goals as goal

pub returns : goal.returns
returns c = suspends_weakly
