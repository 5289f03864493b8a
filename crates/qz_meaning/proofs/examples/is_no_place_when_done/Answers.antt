use Rattle.qz_meaning.proofs.Permitted.{is_no_place_when_done}
use Rattle.qz_meaning.proofs.examples.is_no_place_when_done.Goals as goal

pub returns : goal.returns
returns c = is_no_place_when_done
