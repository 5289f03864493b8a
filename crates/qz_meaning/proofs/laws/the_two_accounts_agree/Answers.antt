use Rattle.qz_meaning.proofs.TellingAll.{residuals_tell}
use Rattle.qz_meaning.proofs.laws.the_two_accounts_agree.Goals as goal

pub returns : goal.returns
returns c = residuals_tell
