use Rattle.step_laws.proofs.CallFree.{walks_alone, layouts_alone}
use Rattle.step_laws.proofs.modules_without_prototypes_stand_alone.Goals as goal

pub returns-clause-walks : goal.returns-clause-walks
returns-clause-walks c = walks_alone

pub returns-clause-layouts : goal.returns-clause-layouts
returns-clause-layouts c = layouts_alone
