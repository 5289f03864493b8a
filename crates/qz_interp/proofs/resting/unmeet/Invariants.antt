use Rattle.std.proofs.Common.{◌≡◌, drop, get_or}
use Rattle.qz_interp.specs.Entering.{no_slot}
use Rattle.qz_interp.specs.Touching.{assigned}
use Rattle.qz_interp.proofs.resting.unmeet.Given as goal

abbrev pub invariant-loop-one : goal.invariant-loop-one
invariant-loop-one l =
    assigned (λ k. get_or l.blank k no_slot) l.slots.items (drop l.one-index l.met) ≡ assigned (λ k. get_or l.blank k no_slot) l.initial.slots.items l.met
