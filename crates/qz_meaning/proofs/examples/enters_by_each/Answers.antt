use Rattle.qz_meaning.proofs.Reentry.{enters_by_each}
use Rattle.qz_meaning.proofs.examples.enters_by_each.Goals as goal

pub returns : goal.returns
returns c = enters_by_each
