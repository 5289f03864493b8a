use Rattle.std.proofs.Common.{◌≡◌, map, take}
use Rattle.qz_react.specs.declared.instances.Instance.{Instance}
use Rattle.qz_react.specs.Seeing.{instance_of}
use Rattle.qz_closing.specs.ProgramParts.{inst_of}
use Rattle.qz_single.proofs.instances.insts_of.Given as goal

abbrev pub invariant-loop-instance : goal.invariant-loop-instance
invariant-loop-instance l = l.insts ≡ map (λ (i : Instance). inst_of l.w (instance_of i)) (take l.instance-index l.instances)
