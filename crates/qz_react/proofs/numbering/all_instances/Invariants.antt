use Rattle.std.proofs.Common.{◌≡◌, ◌++◌, map, drop, take}
use Rattle.qz_syntax.specs.declared.declarations.Dir.TheVariants as dir
use Rattle.qz_meaning.specs.Instances.{formal_instance, local_instance}
use Rattle.qz_meaning.specs.Programs.{numbers_in, formals_of}
use Rattle.qz_react.specs.Seeing.{instance_of}
use Rattle.qz_react.proofs.Counting.{of_locals}
use Rattle.qz_react.proofs.numbering.all_instances.Given as goal

abbrev pub invariant-loop-local : goal.invariant-loop-local
invariant-loop-local l = map instance_of l.all.items ≡ map formal_instance (formals_of dir.Out l.m) ++ of_locals l.m l.local
