use Rattle.std.proofs.Common.{◌≡◌, drop}
use Rattle.qz_values.specs.declared.Know.TheVariants.{Unknown}
use Rattle.qz_interp.specs.Touching.{assigned}
use Rattle.qz_interp.proofs.resting.forget_values.Given as goal

abbrev pub invariant-loop-one : goal.invariant-loop-one
invariant-loop-one l = assigned (λ k. Unknown) l.known.items (drop l.one-index l.met) ≡ assigned (λ k. Unknown) l.initial.known.items l.met
