use Rattle.qz_meaning.proofs.Orderly.{met_alone, own_numbers}
use Rattle.qz_meaning.proofs.laws.instances_are_met_once.Goals as goal

pub returns-clause-programs : goal.returns-clause-programs
returns-clause-programs c = met_alone

pub returns-clause-modules : goal.returns-clause-modules
returns-clause-modules c = own_numbers
