use Rattle.qz_meaning.proofs.EntersAgain.{enters_again}
use Rattle.qz_meaning.proofs.examples.enters_again.Goals as goal

pub returns : goal.returns
returns c = enters_again
