use Rattle.qz_meaning.proofs.OneStep.{one_step}
use Rattle.qz_meaning.proofs.NextPlaces.{steps_lead}
use Rattle.qz_meaning.proofs.laws.definite_steps_are_one.Goals as goal

pub returns-clause-steps : goal.returns-clause-steps
returns-clause-steps c = one_step

pub returns-clause-lead : goal.returns-clause-lead
returns-clause-lead c = steps_lead
