use Rattle.std.proofs.Common.{◌+◌, arith}
use Rattle.qz_symbolic.proofs.Spots.{starts_more, start_at, group_more}
use Rattle.qz_symbolic.proofs.variables.group_starts.Goals as goal

pub loop-j-preserved : goal.loop-j-preserved
loop-j-preserved c =
    let more = group_more c.args.parts.now c.loop-j.j in
    record {
      starts = starts_more c.args.parts.now c.loop-j.starts.items c.push.new.self.items c.loop-j.j c.loop-j.next (c.loop-j.j + 1)
          c.loop-j.invariant.starts c.loop-j.invariant.next c.in_ok-push.ensures.items (omega arith);
      next = omega (arith, more, c.loop-j.invariant.next, c.group_size-next.ensures.size);
      few = omega arith;
    }

pub returns-clause-each : goal.returns-clause-each
returns-clause-each c = λ j below.
    start_at c.args.parts.now c.push-2.new.self.items j (c.loop-j.j + 1)
    (starts_more c.args.parts.now c.loop-j.starts.items c.push-2.new.self.items c.loop-j.j c.loop-j.next (c.loop-j.j + 1)
    c.loop-j.invariant.starts c.loop-j.invariant.next c.in_ok-push-2.ensures.items (omega arith)) (omega arith)
