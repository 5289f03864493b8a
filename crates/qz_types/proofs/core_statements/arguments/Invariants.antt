use Rattle.std.proofs.Common.{◌≡◌, ◌++◌, drop}
use Rattle.qz_types.specs.Scopes.{meanings_of}
use Rattle.qz_types.specs.CoreStatements.{core_arguments}
use Rattle.qz_types.proofs.core_statements.arguments.Given as goal

abbrev pub invariant-loop-value : goal.invariant-loop-value
invariant-loop-value l =
    l.core ++ core_arguments (meanings_of l.names) l.rest (drop l.value-index l.args) ≡ core_arguments (meanings_of l.names) l.formals l.args
