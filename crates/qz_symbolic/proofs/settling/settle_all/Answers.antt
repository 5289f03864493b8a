use Rattle.std.proofs.Common.{length, ap, arith}
use Rattle.std.proofs.lemmas.List.{length_push}
use Rattle.qz_symbolic.specs.declared.rails.InstanceRails.{InstanceRails}
use Rattle.qz_symbolic.specs.Settled.{IsSettledBy}
use Rattle.qz_symbolic.proofs.Lists.{each_pushed}
use Rattle.qz_symbolic.proofs.Growing.{grows, stores_grow}
use Rattle.qz_symbolic.proofs.SettledRails.{settled_grows}
use Rattle.qz_symbolic.proofs.settling.settle_all.Goals as goal

pub settle-requires-clause-stores : goal.settle-requires-clause-stores
settle-requires-clause-stores c = stores_grow c.args.diagrams.now c.loop-n.diagrams c.args.parts.now c.args.kept.stores.now c.loop-n.invariant.extends c.requires.stores

pub loop-n-preserved : goal.loop-n-preserved
loop-n-preserved c = record {
  extends = grows c.args.diagrams.now c.loop-n.diagrams c.settle.new.diagrams c.loop-n.invariant.extends c.in_ok-rails.ensures.extends;
  long =
      let pushed = ap length c.in_ok-push.ensures.items in
      let more = length_push c.loop-n.all.items c.in_ok-rails.rails in
      omega (arith, pushed, more, c.loop-n.invariant.long);
  each = each_pushed (λ n (one : InstanceRails). IsSettledBy c.settle.new.diagrams c.args.parts.now n c.args.tallied.now.now c.args.tallied.later.now one)
      c.loop-n.all.items c.push.new.self.items c.loop-n.n c.in_ok-rails.rails c.loop-n.invariant.long c.in_ok-push.ensures.items
      (λ n one at. settled_grows c.loop-n.diagrams c.settle.new.diagrams c.args.parts.now n c.args.tallied.now.now c.args.tallied.later.now one c.in_ok-rails.ensures.extends (c.loop-n.invariant.each n one at))
      c.in_ok-rails.ensures.rails;
}
