use Rattle.qz_meaning.proofs.EmitsAlways.{emits_always}
use Rattle.qz_meaning.proofs.examples.emits_always.Goals as goal

pub returns : goal.returns
returns c = emits_always
