use Rattle.qz_equations.proofs.Running.{runs_as_system}
use Rattle.qz_equations.proofs.laws.a_module_runs_as_its_system.Goals as goal

pub returns : goal.returns
returns c = runs_as_system
