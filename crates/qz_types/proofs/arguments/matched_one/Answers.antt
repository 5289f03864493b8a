use Rattle.std.proofs.Common.{◌≡◌}
use Rattle.qz_types.proofs.FaultLemmas.{first_with_append}
use Rattle.qz_types.proofs.arguments.matched_one.Goals as goal

pub returns : goal.returns
returns c =
    rw (first_with_append, first_with_append, ← c.type_of-ty.ensures.faults, ← c.type_of-ty.ensures.ty, ← c.first_token-at.ensures, ← c.type_of_text.ensures, ← c.both.ensures)
    c.direction.ensures
