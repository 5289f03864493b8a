use Rattle.qz_meaning.proofs.CarriesStores.{carries_stores}
use Rattle.qz_meaning.proofs.examples.carries_stores.Goals as goal

pub returns : goal.returns
returns c = carries_stores
