use Rattle.qz_meaning.proofs.Permitted.{are_permitted}
use Rattle.qz_meaning.proofs.examples.are_permitted.Goals as goal

pub returns : goal.returns
returns c = are_permitted
