use Rattle.qz_interp.proofs.SettlingLemmas.{settled_as_defined}
use Rattle.qz_interp.proofs.laws.settles_as_defined.Goals as goal

pub returns : goal.returns
returns c = settled_as_defined
