use Rattle.qz_vread.proofs.Along.{reached}
use Rattle.qz_vread.proofs.laws.lines_end_in_their_module.Goals as goal

pub returns : goal.returns
returns c = reached
