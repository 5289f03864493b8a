use Rattle.std.proofs.Common.{◌≡◌, take, map}
use Rattle.qz_system.specs.Rounds.{leaf_known}
use Rattle.qz_system.proofs.rounds.tell_leaves.Given as goal

abbrev pub invariant-loop-number : goal.invariant-loop-number
invariant-loop-number l = take l.number l.leaves ≡ map (λ one. leaf_known l.parts l.v l.before one) (take l.number l.parts.leaves)
