use Rattle.qz_meaning.proofs.CarriesStores.{has_three_instances}
use Rattle.qz_meaning.proofs.examples.has_three_instances.Goals as goal

pub returns : goal.returns
returns c = has_three_instances
