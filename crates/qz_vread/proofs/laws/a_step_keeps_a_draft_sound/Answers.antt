use Rattle.qz_vread.proofs.Advancing.{advances}
use Rattle.qz_vread.proofs.laws.a_step_keeps_a_draft_sound.Goals as goal

pub returns : goal.returns
returns c = λ d new line s step. (advances d new line s step).sound
