use Rattle.std.proofs.Common.{◌≡◌}
use Rattle.qz_control.specs.Contexts.{context_of}
use Rattle.qz_control.proofs.marks.Marks.set.Given as goal

abbrev pub invariant-loop : goal.invariant-loop
invariant-loop l = context_of l.self ≡ context_of l.initial.self
