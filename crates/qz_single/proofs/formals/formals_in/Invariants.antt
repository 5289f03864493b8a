use Rattle.std.proofs.Common.{◌≡◌, ◌++◌, map, drop}
use Rattle.qz_meaning.specs.Instances.{formal_instance}
use Rattle.qz_meaning.specs.Programs.{numbers_in}
use Rattle.qz_react.specs.Seeing.{instance_of}
use Rattle.qz_single.proofs.formals.formals_in.Given as goal

abbrev pub invariant-loop-formal : goal.invariant-loop-formal
invariant-loop-formal l =
    map instance_of l.all.items ++ map formal_instance (numbers_in l.side l.number (drop l.formal-index l.formals))
    ≡ map formal_instance (numbers_in l.side 0 l.formals)
