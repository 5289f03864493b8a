use Rattle.std.proofs.Common.{◌≡◌, ◌++◌, map, drop, take}
use Rattle.qz_syntax.specs.declared.declarations.Dir.TheVariants as dir
use Rattle.qz_meaning.specs.Instances.{formal_instance, local_instance}
use Rattle.qz_meaning.specs.Programs.{numbers_in, formals_of}
use Rattle.qz_react.specs.Seeing.{instance_of}
use Rattle.qz_react.proofs.Counting.{of_locals}
use Rattle.qz_react.proofs.numbering.add_marks.Given as goal

abbrev pub invariant-loop-mark : goal.invariant-loop-mark
invariant-loop-mark l = map instance_of l.all.items ≡ map instance_of l.initial.all.items ++ map (local_instance l.local) (take l.mark-index l.marks)
