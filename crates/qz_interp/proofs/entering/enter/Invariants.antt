use Rattle.std.proofs.Common.{◌≡◌, drop}
use Rattle.qz_interp.specs.Entering.{entered}
use Rattle.qz_interp.proofs.entering.enter.Given as goal

abbrev pub invariant-loop-one : goal.invariant-loop-one
invariant-loop-one l = entered l.slots.items (drop l.one-index l.met) ≡ entered l.initial.slots.items l.met
