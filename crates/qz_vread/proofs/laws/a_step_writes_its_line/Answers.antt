use Rattle.qz_vread.proofs.Advancing.{advances}
use Rattle.qz_vread.proofs.laws.a_step_writes_its_line.Goals as goal

pub returns : goal.returns
returns c = λ d new line s step. (advances d new line s step).lines
