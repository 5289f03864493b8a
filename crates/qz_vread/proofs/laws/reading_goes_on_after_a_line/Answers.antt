use Rattle.qz_vread.proofs.Refusing.{goes_on}
use Rattle.qz_vread.proofs.laws.reading_goes_on_after_a_line.Goals as goal

pub returns : goal.returns
returns c = goes_on
