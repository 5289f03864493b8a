use Rattle.std.proofs.Common.{◌≡◌, map, take}
use Rattle.qz_react.specs.declared.instances.Instance.{Instance}
use Rattle.qz_react.specs.Seeing.{instance_of}
use Rattle.qz_interp.specs.Entering.{blank_slot}
use Rattle.qz_interp.proofs.entering.blank_slots.Given as goal

abbrev pub invariant-loop-instance : goal.invariant-loop-instance
invariant-loop-instance l = l.slots.items ≡ map (λ (i : Instance). blank_slot l.m (instance_of i)) (take l.instance-index l.instances)
