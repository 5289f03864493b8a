use Rattle.qz_vread.proofs.Refusing.{ends}
use Rattle.qz_vread.proofs.laws.a_text_that_was_read_is_its_modules.Goals as goal

pub returns-clause-is_module : goal.returns-clause-is_module
returns-clause-is_module c = λ bytes d reading last. (ends bytes d reading last).0

pub returns-clause-text : goal.returns-clause-text
returns-clause-text c = λ bytes d reading last. (ends bytes d reading last).1
