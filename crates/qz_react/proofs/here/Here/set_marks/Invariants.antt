use Rattle.std.proofs.Common.{◌≡◌, drop}
use Rattle.qz_meaning.specs.Scenes.{with_locals}
use Rattle.qz_react.specs.Contexts.{context_of}
use Rattle.qz_react.proofs.here.Here.set_marks.Given as goal

abbrev pub invariant-loop-local : goal.invariant-loop-local
invariant-loop-local l =
    with_locals (context_of l.self) (drop l.local-index l.locals) l.mark ≡ with_locals (context_of l.initial.self) l.locals l.mark
