use Rattle.qz_first.proofs.SourceLemmas.{same_source}
use Rattle.qz_first.proofs.reader.one_source.Goals as goal

pub returns : goal.returns
returns c bytes m n source other = same_source bytes m n source other
