use Rattle.qz_meaning.proofs.WrittenOut.{has_local_bits}
use Rattle.qz_meaning.proofs.examples.has_local_bits.Goals as goal

pub returns : goal.returns
returns c = has_local_bits
