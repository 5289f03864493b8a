use Rattle.qz_first.proofs.StartMirror.{starts_as_its_bits}
use Rattle.qz_first.proofs.first_runs.starts_as_its_bits.Goals as goal

pub returns : goal.returns
returns c = starts_as_its_bits
