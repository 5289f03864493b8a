use Rattle.qz_control.proofs.Resumes.{nets_resume}
use Rattle.qz_control.proofs.laws.nets_resume_the_statement.Goals as goal

pub returns : goal.returns
returns c = λ m scene s ready. nets_resume m scene s ready
