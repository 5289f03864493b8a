use Rattle.qz_meaning.proofs.WaitsForItself.{waits_for_itself}
use Rattle.qz_meaning.proofs.examples.waits_for_itself.Goals as goal

pub returns : goal.returns
returns c = waits_for_itself
