use Rattle.std.proofs.Common.{◌≡◌, drop}
use Rattle.qz_interp.specs.Doubts.{are_definite}
use Rattle.qz_interp.proofs.doubts.are_definite.Given as goal

abbrev pub invariant-loop-one : goal.invariant-loop-one
invariant-loop-one l = are_definite (drop l.one-index l.met) l.known l.delayed ≡ are_definite l.met l.known l.delayed
