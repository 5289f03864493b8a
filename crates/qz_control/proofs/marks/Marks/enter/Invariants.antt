use Rattle.std.proofs.Common.{◌≡◌, drop}
use Rattle.qz_meaning.specs.Scenes.{with_locals}
use Rattle.qz_control.specs.Contexts.{context_of, restored}
use Rattle.qz_control.proofs.marks.Marks.enter.Given as goal

abbrev pub invariant-loop-local : goal.invariant-loop-local
invariant-loop-local l = record {
  entered : with_locals (context_of l.self) (drop l.local-index l.locals) l.mark ≡ with_locals (context_of l.initial.self) l.locals l.mark;
  covered : restored (context_of l.self) l.covered.items ≡ context_of l.initial.self;
}
