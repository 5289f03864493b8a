use Rattle.qz_system.specs.Parts.{is_net_right}
use Rattle.qz_system.proofs.NetLemmas.{net_passes, net_fails}
use Rattle.qz_system.proofs.wired.are_nets_right.Goals as goal

pub returns-then-not-is_net_right : goal.returns-then-not-is_net_right
returns-then-not-is_net_right c =
    net_fails (is_net_right c.args.parts.now) c.args.parts.now.table.nets.entries c.loop-number.number c.get.result.now c.is_net_right.result
    c.get.ensures c.is_net_right.ensures c.if-not-is_net_right.true c.loop-number.invariant

pub loop-number-preserved : goal.loop-number-preserved
loop-number-preserved c =
    net_passes (is_net_right c.args.parts.now) c.args.parts.now.table.nets.entries c.loop-number.number c.get.result.now c.is_net_right.result
    c.get.ensures c.is_net_right.ensures c.if-not-is_net_right.false c.loop-number.invariant
