use Rattle.qz_meaning.proofs.Preemptions.{is_held_back}
use Rattle.qz_meaning.proofs.examples.is_held_back.Goals as goal

pub returns : goal.returns
returns c = is_held_back
