use Rattle.qz_verilog.proofs.Running.{runs_once}
use Rattle.qz_verilog.proofs.laws.a_valid_module_runs_once.Goals as goal

pub returns : goal.returns
returns c = runs_once
