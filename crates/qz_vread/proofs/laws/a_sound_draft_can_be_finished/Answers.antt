use Rattle.qz_vread.proofs.Finishing.{finish}
use Rattle.qz_vread.proofs.laws.a_sound_draft_can_be_finished.Goals as goal

pub returns : goal.returns
returns c = finish
