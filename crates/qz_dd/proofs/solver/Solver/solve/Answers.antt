use Rattle.std.proofs.Common.{List, ◌≡◌, ◌<◌, ◌+◌, subst, arith, ap, ◌∙◌}
use Rattle.qz_dd.specs.declared.work.Frame.{Frame}
use Rattle.qz_dd.specs.Answers.{Chained, all_steps, frame_steps, steps_left}
use Rattle.qz_dd.proofs.Calling.{extends_on}
use Rattle.qz_dd.proofs.Chains.{chained_pop, all_steps_push}
use Rattle.qz_dd.proofs.solver.Solver.solve.Goals as goal

pub leave-requires-clause-awaits : goal.leave-requires-clause-awaits
leave-requires-clause-awaits c =
    let chained = subst (λ (frames : List Frame). Chained c.answering.self.table c.args.asked frames c.answering.work.call) c.in-Some-pop.ensures.items c.answering.invariant.on.chained in
    (chained_pop c.answering.self.table c.args.asked c.pop.new.self.items c.in-Some-pop.frame c.answering.work.call chained).1

pub answering-smaller : goal.answering-smaller
answering-smaller c =
    let cost : all_steps c.answering.work.waiting.items ≡ all_steps c.pop.new.self.items + frame_steps c.in-Some-pop.frame =
    ap all_steps c.in-Some-pop.ensures.items ∙ all_steps_push c.pop.new.self.items c.in-Some-pop.frame in
    let less : steps_left c.leave.new.work < steps_left c.answering.work = omega (arith, cost, c.in_ok-leave-in-Some-pop.ensures.less) in
    less

pub answering-preserved : goal.answering-preserved
answering-preserved c =
    let chained = subst (λ (frames : List Frame). Chained c.answering.self.table c.args.asked frames c.answering.work.call) c.in-Some-pop.ensures.items c.answering.invariant.on.chained in
    let popped = chained_pop c.answering.self.table c.args.asked c.pop.new.self.items c.in-Some-pop.frame c.answering.work.call chained in
    record {
      on = c.in_ok-leave-in-Some-pop.ensures.on c.args.asked popped.0;
      extends = extends_on c.args.self.now.table c.answering.self.table c.leave.new.self.table c.answering.invariant.extends c.leave.ensures.extends;
    }
