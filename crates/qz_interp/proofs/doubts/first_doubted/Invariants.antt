use Rattle.std.proofs.Common.{◌≡◌, drop}
use Rattle.qz_interp.specs.Doubts.{doubted_from}
use Rattle.qz_interp.proofs.doubts.first_doubted.Given as goal

abbrev pub invariant-loop-number : goal.invariant-loop-number
invariant-loop-number l = doubted_from l.number (drop l.number l.slots) l.known l.delayed ≡ doubted_from 0 l.slots l.known l.delayed
