use Rattle.std.proofs.Common.{◌++◌, ◌∷◌, [], ap, ◌∙◌, get_or}
use Rattle.qz_control.specs.Contexts.{context_of, restored}
use Rattle.qz_control.proofs.Placing.{marking_step, covering_step, marked_all, cut_at}
use Rattle.qz_control.proofs.marks.Marks.enter.Goals as goal

pub loop-local-preserved : goal.loop-local-preserved
loop-local-preserved c =
    let local = get_or c.args.locals.now c.loop-local.local-index 0 in
    record {
      entered = marking_step (context_of c.loop-local.self) (context_of c.set.new.self) _ c.args.locals.now c.loop-local.local-index _ c.args.mark
          c.in_ok-set.ensures (cut_at c.args.locals.now c.loop-local.local-index c.loop-local-test.true) c.loop-local.invariant.entered;
      covered =
          ap (restored (context_of c.set.new.self)) c.in_ok-push.ensures.items
          ∙ ap (λ k. restored (context_of c.set.new.self) (c.loop-local.covered.items ++ record { local = local; mark = k } ∷ [])) c.of_local.ensures
          ∙ covering_step (context_of c.loop-local.self) (context_of c.set.new.self) _ c.loop-local.covered.items local c.args.mark
          c.in_ok-set.ensures c.loop-local.invariant.covered;
    }

pub returns-clause-entered : goal.returns-clause-entered
returns-clause-entered c = marked_all _ _ c.args.locals.now c.loop-local.local-index c.args.mark c.loop-local-test.false c.loop-local.invariant.entered
