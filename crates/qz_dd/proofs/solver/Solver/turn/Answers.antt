use Rattle.std.proofs.Common.{List, Some, sym, subst, refl}
use Rattle.qz_dd.specs.declared.work.Frame.{Frame}
use Rattle.qz_dd.specs.Answers.{Awaits, Chained}
use Rattle.qz_dd.proofs.Chains.{chained_push, turned_less}
use Rattle.qz_dd.proofs.solver.Solver.turn.Goals as goal

pub returns-clause-on : goal.returns-clause-on
returns-clause-on c = λ asked way.
    let t = c.args.self.now.table in
    let frame : Frame = record { call = c.args.call; var = c.args.var; low = Some c.args.d } in
    let awaits : Awaits t frame c.cofactor-work.result = record { has = c.requires.has; top = c.requires.top; low = c.requires.low; cofactor = c.cofactor-work.ensures } in
    record {
      chained = subst (λ (frames : List Frame). Chained t asked frames c.cofactor-work.result) (sym c.in_ok-push.ensures.items)
          (chained_push t asked c.args.work.now.waiting.items c.args.call way frame refl c.cofactor-work.result awaits);
      has = c.cofactor-work.ensures.has;
      answered = c.known-work.ensures.right;
      undecided = c.known-work.ensures.undecided;
    }

pub returns-clause-less : goal.returns-clause-less
returns-clause-less c =
    let frame : Frame = record { call = c.args.call; var = c.args.var; low = Some c.args.d } in
    turned_less c.args.work.now.waiting.items c.push.new.self.items frame c.args.call c.cofactor-work.result c.known-work.result c.in_ok-push.ensures.items refl c.cofactor-work.ensures.less
