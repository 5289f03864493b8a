use Rattle.qz_system.proofs.TypingLemmas.{FirstHaveTypes}
use Rattle.qz_system.proofs.typing.have_types.Given as goal

abbrev pub invariant-loop-number : goal.invariant-loop-number
invariant-loop-number l = FirstHaveTypes l.parts l.now l.number
