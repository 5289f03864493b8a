use Rattle.qz_vread.proofs.Wholes.{module_path}
use Rattle.qz_vread.proofs.laws.lines_lead_to_their_module.Goals as goal

pub returns : goal.returns
returns c = module_path
