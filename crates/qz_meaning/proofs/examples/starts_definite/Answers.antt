use Rattle.qz_meaning.proofs.EmitsInOneRun.{starts_definite}
use Rattle.qz_meaning.proofs.examples.starts_definite.Goals as goal

pub returns : goal.returns
returns c = starts_definite
