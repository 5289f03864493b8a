use Rattle.qz_source.specs.Marks.{keywords}
use Rattle.qz_source.proofs.marks.keyword.Goals as goal

pub returns : goal.returns
unfolding keywords
returns c = c.mark_in.ensures
