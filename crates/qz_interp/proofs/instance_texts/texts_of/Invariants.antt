use Rattle.std.proofs.Common.{◌≡◌, map, take}
use Rattle.qz_react.specs.declared.instances.Instance.{Instance}
use Rattle.qz_react.specs.Seeing.{instance_of}
use Rattle.qz_interp.specs.InstanceTexts.{instance_text}
use Rattle.qz_interp.proofs.instance_texts.texts_of.Given as goal

abbrev pub invariant-loop-instance : goal.invariant-loop-instance
invariant-loop-instance l = l.texts.items ≡ map (λ (i : Instance). instance_text l.w (instance_of i)) (take l.instance-index l.instances)
