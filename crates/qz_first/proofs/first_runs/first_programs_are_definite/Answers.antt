use Rattle.qz_first.proofs.AlwaysDefinite.{always_definite}
use Rattle.qz_first.proofs.first_runs.first_programs_are_definite.Goals as goal

pub returns : goal.returns
returns c = always_definite
