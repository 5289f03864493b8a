use Rattle.qz_vread.proofs.Refusing.{early}
use Rattle.qz_vread.proofs.laws.a_text_that_ends_early_is_at_fault.Goals as goal

pub returns : goal.returns
returns c = early
