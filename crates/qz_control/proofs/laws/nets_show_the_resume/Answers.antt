use Rattle.qz_control.proofs.Lively.{resume_shown}
use Rattle.qz_control.proofs.laws.nets_show_the_resume.Goals as goal

pub returns : goal.returns
returns c = λ m scene answers s ready b r at ctx act i delayed. resume_shown m scene answers s ready b r at ctx act i delayed
