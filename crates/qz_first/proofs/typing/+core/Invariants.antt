use Rattle.std.proofs.Common.{drop}
use Rattle.qz_first.proofs.CoreLemmas.{CoresSoFar}
use Rattle.qz_first.proofs.typing.+core.Given as goal

abbrev pub invariant-members-loop-part : goal.invariant-members-loop-part
invariant-members-loop-part l = CoresSoFar l.numbers l.parts l.initial.counts l.members l.counts (drop l.part-index l.parts)
