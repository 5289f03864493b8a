use Rattle.qz_interp.proofs.Distinct.{instances_distinct}
use Rattle.qz_interp.proofs.laws.instances_have_one_number.Goals as goal

pub returns : goal.returns
returns c = instances_distinct
