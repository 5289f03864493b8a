use Rattle.qz_vread.proofs.Refusing.{unended}
use Rattle.qz_vread.proofs.laws.a_line_without_its_line_feed_is_at_fault.Goals as goal

pub returns : goal.returns
returns c = unended
