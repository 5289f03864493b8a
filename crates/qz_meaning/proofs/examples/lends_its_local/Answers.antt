use Rattle.qz_meaning.proofs.Lending.{lends_its_local}
use Rattle.qz_meaning.proofs.examples.lends_its_local.Goals as goal

pub returns : goal.returns
returns c = lends_its_local
