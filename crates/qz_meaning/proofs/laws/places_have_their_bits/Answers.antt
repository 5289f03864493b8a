use Rattle.qz_meaning.proofs.PlaceBits.{places_have_bits}
use Rattle.qz_meaning.proofs.laws.places_have_their_bits.Goals as goal

pub returns : goal.returns
returns c = places_have_bits
