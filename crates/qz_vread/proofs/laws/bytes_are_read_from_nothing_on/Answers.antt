use Rattle.qz_vread.proofs.Refusing.{starts}
use Rattle.qz_vread.proofs.laws.bytes_are_read_from_nothing_on.Goals as goal

pub returns : goal.returns
returns c = starts
