use Rattle.qz_vread.proofs.Unspelling.{spelled_is_read}
use Rattle.qz_vread.proofs.laws.a_spelled_name_is_read.Goals as goal

pub returns : goal.returns
returns c = spelled_is_read
