use Rattle.std.proofs.Common.{◌≡◌, replicate, None}
use Rattle.qz_first.proofs.typing.unlabeled.Given as goal

abbrev pub invariant-loop : goal.invariant-loop
invariant-loop l = l.labels ≡ replicate l.counter None
