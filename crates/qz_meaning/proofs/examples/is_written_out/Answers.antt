use Rattle.qz_meaning.proofs.WrittenOut.{is_written_out}
use Rattle.qz_meaning.proofs.examples.is_written_out.Goals as goal

pub returns : goal.returns
returns c = is_written_out
