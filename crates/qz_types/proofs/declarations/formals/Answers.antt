use Rattle.std.proofs.Common.{◌≡◌}
use Rattle.qz_types.proofs.FaultLemmas.{first_with_append}
use Rattle.qz_types.proofs.declarations.formals.Goals as goal

pub returns-clause-faults : goal.returns-clause-faults
returns-clause-faults c =
    rw (first_with_append, first_with_append, ← c.formal_widths.ensures, ← c.in_ok-scope.ensures.faults) c.formal_count.ensures
