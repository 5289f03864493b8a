use Rattle.std.specs.Str.{chars}
use Rattle.qz_source.proofs.FirstFaults.{one_answer}
use Rattle.qz_source.proofs.laws.one_answer.Goals as goal

pub returns : goal.returns
returns c bytes = one_answer bytes (c.one_outcome.ensures (chars bytes))
