use Rattle.qz_verilog.proofs.Running.{settles_once}
use Rattle.qz_verilog.proofs.laws.a_valid_module_settles_once.Goals as goal

pub returns : goal.returns
returns c = settles_once
