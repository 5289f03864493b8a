use Rattle.qz_source.specs.Marks.{signs}
use Rattle.qz_source.proofs.marks.sign.Goals as goal

pub returns : goal.returns
unfolding signs
returns c = c.mark_in.ensures
