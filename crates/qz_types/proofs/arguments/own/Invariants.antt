use Rattle.std.proofs.Common.{◌≡◌, drop}
use Rattle.qz_types.specs.Faults.{first_with}
use Rattle.qz_types.specs.Scopes.{meanings_of}
use Rattle.qz_types.specs.ArgumentFaults.{own_faults}
use Rattle.qz_types.proofs.arguments.own.Given as goal

abbrev pub invariant-loop-argument : goal.invariant-loop-argument
invariant-loop-argument l =
    first_with l.first.fault (own_faults (meanings_of l.names) (drop l.argument-index l.arguments))
    ≡ first_with l.initial.first.fault (own_faults (meanings_of l.names) l.arguments)
