use Rattle.qz_meaning.proofs.OpenRising.{targets_stand}
use Rattle.qz_meaning.proofs.laws.targets_depend_on_the_place.Goals as goal

pub returns : goal.returns
returns c = targets_stand
