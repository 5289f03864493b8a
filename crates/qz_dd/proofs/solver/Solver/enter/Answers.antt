use Rattle.std.proofs.Common.{List, None, sym, subst, refl, cond, is_some, ◌+◌, ◌<◌, Option}
use Rattle.qz_dd.specs.declared.node.DdId.{DdId}
use Rattle.qz_dd.specs.declared.work.Frame.{Frame}
use Rattle.qz_dd.specs.Calls.{size}
use Rattle.qz_dd.specs.Answers.{Awaits, Chained, steps, all_steps}
use Rattle.qz_dd.proofs.Chains.{chained_push, entered_less}
use Rattle.qz_dd.proofs.solver.Solver.enter.Goals as goal

pub returns-clause-on : goal.returns-clause-on
returns-clause-on c = λ asked way.
    let t = c.args.self.now.table in
    let frame : Frame = record { call = c.args.work.now.call; var = c.top-var.result; low = None } in
    let awaits : Awaits t frame c.cofactor-work.result = record { has = c.requires.has; top = c.top-var.ensures; low = tt; cofactor = c.cofactor-work.ensures } in
    record {
      chained = subst (λ (frames : List Frame). Chained t asked frames c.cofactor-work.result) (sym c.in_ok-push.ensures.items)
          (chained_push t asked c.args.work.now.waiting.items c.args.work.now.call way.chained frame refl c.cofactor-work.result awaits);
      has = c.cofactor-work.ensures.has;
      answered = c.known-work.ensures.right;
      undecided = c.known-work.ensures.undecided;
    }

pub returns-clause-less : goal.returns-clause-less
returns-clause-less c =
    let frame : Frame = record { call = c.args.work.now.call; var = c.top-var.result; low = None } in
    let call = c.args.work.now.call in
    let now = all_steps c.push.new.self.items + cond (is_some c.known-work.result) 0 (steps (size c.cofactor-work.result)) in
    let less = entered_less c.args.work.now.waiting.items c.push.new.self.items frame c.args.work.now.call c.cofactor-work.result c.known-work.result c.in_ok-push.ensures.items refl c.cofactor-work.ensures.less in
    subst (λ (o : Option DdId). now < all_steps c.args.work.now.waiting.items + cond (is_some o) 0 (steps (size call))) (sym c.requires.unanswered) less
