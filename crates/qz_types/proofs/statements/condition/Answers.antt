use Rattle.std.proofs.Common.{◌≡◌}
use Rattle.qz_types.proofs.FaultLemmas.{first_with_append}
use Rattle.qz_types.proofs.statements.condition.Goals as goal

pub returns : goal.returns
returns c = rw (first_with_append, ← c.type_of-ty.ensures.faults, ← c.type_of-ty.ensures.ty) c.truth.ensures
