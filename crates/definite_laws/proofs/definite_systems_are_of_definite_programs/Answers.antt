use Rattle.definite_laws.proofs.DefiniteSame.{program_definite}
use Rattle.definite_laws.proofs.definite_systems_are_of_definite_programs.Goals as goal

pub returns : goal.returns
returns c w parts well right closes at v permitted e it = program_definite w parts well right closes at v permitted e it
