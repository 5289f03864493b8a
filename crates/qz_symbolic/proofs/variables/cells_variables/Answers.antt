use Rattle.std.proofs.Common.{length, ap, arith}
use Rattle.std.proofs.lemmas.List.{length_push}
use Rattle.qz_symbolic.specs.Variables.{AreOfCell}
use Rattle.qz_symbolic.proofs.Lists.{each_pushed}
use Rattle.qz_symbolic.proofs.variables.cells_variables.Goals as goal

pub loop-n-preserved : goal.loop-n-preserved
loop-n-preserved c = record {
  count =
      let pushed = ap length c.in_ok-push.ensures.items in
      let long = length_push c.loop-n.all.items c.in_ok-one.one in
      omega (arith, pushed, long, c.loop-n.invariant.count);
  each = each_pushed (AreOfCell c.args.parts.now) c.loop-n.all.items c.push.new.self.items c.loop-n.n c.in_ok-one.one c.loop-n.invariant.count
      c.in_ok-push.ensures.items c.loop-n.invariant.each c.in_ok-one.ensures.cell;
  next = c.in_ok-one.ensures.next;
}
