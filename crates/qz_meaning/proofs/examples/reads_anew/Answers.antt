use Rattle.qz_meaning.proofs.ReadsAnew.{reads_anew}
use Rattle.qz_meaning.proofs.examples.reads_anew.Goals as goal

pub returns : goal.returns
returns c = reads_anew
