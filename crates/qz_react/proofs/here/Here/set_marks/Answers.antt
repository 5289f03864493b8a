use Rattle.qz_react.specs.Contexts.{context_of}
use Rattle.qz_react.proofs.Placing.{marking_step, marked_all, cut_at}
use Rattle.qz_react.proofs.here.Here.set_marks.Goals as goal

pub loop-local-preserved : goal.loop-local-preserved
loop-local-preserved c =
    marking_step (context_of c.loop-local.self) (context_of c.set_mark.new.self) _ c.args.locals.now c.loop-local.local-index _ c.args.mark
    c.in_ok-set_mark.ensures (cut_at c.args.locals.now c.loop-local.local-index c.loop-local-test.true) c.loop-local.invariant

pub returns : goal.returns
returns c = marked_all _ _ c.args.locals.now c.loop-local.local-index c.args.mark c.loop-local-test.false c.loop-local.invariant
