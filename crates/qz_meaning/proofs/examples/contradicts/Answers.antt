use Rattle.qz_meaning.proofs.Contradicts.{contradicts}
use Rattle.qz_meaning.proofs.examples.contradicts.Goals as goal

pub returns : goal.returns
returns c = contradicts
