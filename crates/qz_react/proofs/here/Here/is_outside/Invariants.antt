use Rattle.std.proofs.Common.{◌≡◌, drop}
use Rattle.qz_syntax.specs.declared.places.Mark.TheVariants.{Zero}
use Rattle.qz_meaning.specs.Scenes.{with_locals}
use Rattle.qz_react.specs.Contexts.{context_of}
use Rattle.qz_react.proofs.here.Here.is_outside.Given as goal

abbrev pub invariant-loop-local : goal.invariant-loop-local
invariant-loop-local l =
    with_locals (context_of l.self) (drop l.local-index l.locals) Zero ≡ context_of l.self
    → with_locals (context_of l.self) l.locals Zero ≡ context_of l.self
