use Rattle.std.proofs.Common.{◌≡◌}
use Rattle.qz_types.proofs.FaultLemmas.{first_with_append}
use Rattle.qz_types.proofs.statements.assignment.Goals as goal

pub returns : goal.returns
returns c =
    rw (first_with_append, first_with_append, ← c.written-written.ensures.faults, ← c.type_of-ty.ensures.faults, ← c.written-written.ensures.ty, ← c.type_of-ty.ensures.ty)
    c.both.ensures
