use Rattle.std.proofs.Common.{◌≡◌}
use Rattle.qz_react.specs.Contexts.{context_of}
use Rattle.qz_react.proofs.here.Here.set_argument.Given as goal

abbrev pub invariant-loop : goal.invariant-loop
invariant-loop l = context_of l.self ≡ context_of l.initial.self
