use Rattle.std.proofs.Common.{◌≡◌, ◌++◌, map, drop, take}
use Rattle.qz_syntax.specs.declared.declarations.Dir.TheVariants as dir
use Rattle.qz_meaning.specs.Instances.{formal_instance, local_instance}
use Rattle.qz_meaning.specs.Programs.{numbers_in, formals_of}
use Rattle.qz_react.specs.Seeing.{instance_of}
use Rattle.qz_react.proofs.Counting.{of_locals}
use Rattle.qz_react.proofs.numbering.outputs_of.Given as goal

abbrev pub invariant-loop-formal : goal.invariant-loop-formal
invariant-loop-formal l =
    map instance_of l.all.items ++ map formal_instance (numbers_in dir.Out l.number (drop l.formal-index l.formals))
    ≡ map formal_instance (numbers_in dir.Out 0 l.formals)
