use Rattle.std.proofs.Common.{◌≡◌, drop}
use Rattle.qz_syntax.specs.declared.places.Later.TheVariants as later
use Rattle.qz_interp.specs.Touching.{assigned}
use Rattle.qz_interp.proofs.resting.forget_delayed.Given as goal

abbrev pub invariant-loop-one : goal.invariant-loop-one
invariant-loop-one l = assigned (λ k. later.Unknown) l.delayed.items (drop l.one-index l.met) ≡ assigned (λ k. later.Unknown) l.initial.delayed.items l.met
