use Rattle.std.proofs.Common.{refl}
use Rattle.qz_expand.proofs.whole.joined.Goals as goal

pub returns-clause-body : goal.returns-clause-body
returns-clause-body c = refl

pub returns-clause-names : goal.returns-clause-names
returns-clause-names c = refl
