use Rattle.qz_vread.proofs.Refusing.{refuses}
use Rattle.qz_vread.proofs.laws.a_line_that_cannot_come_next_is_at_fault.Goals as goal

pub returns : goal.returns
returns c = refuses
