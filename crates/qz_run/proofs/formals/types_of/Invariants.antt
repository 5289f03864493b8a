use Rattle.std.proofs.Common.{◌≡◌, ◌++◌, drop}
use Rattle.qz_run.specs.Inputs.{types_of}
use Rattle.qz_run.proofs.formals.types_of.Given as goal

abbrev pub invariant-loop-formal : goal.invariant-loop-formal
invariant-loop-formal l = l.types.items ++ types_of l.side (drop l.formal-index l.formals) ≡ types_of l.side l.formals
