use Rattle.std.proofs.Common.{◌≡◌, ◌∙◌, List, Some, length, get_or, ap, subst, arith}
use Rattle.std.specs.Prelude.{slice_get}
use Rattle.std.proofs.lemmas.List.{length_push}
use Rattle.std.proofs.lemmas.Option.{get_or_from_slice_get}
use Rattle.qz_rails.specs.declared.rail.Rail.{Rail}
use Rattle.qz_system.specs.declared.parts.SystemLeaf.{SystemLeaf}
use Rattle.qz_system.specs.declared.parts.SystemLeaf.TheVariants as leaf
use Rattle.qz_symbolic.specs.Knowing.{IsLeafRail}
use Rattle.qz_symbolic.proofs.Lists.{each_pushed}
use Rattle.qz_symbolic.proofs.Growing.{grows, leaf_rail_grows}
use Rattle.qz_symbolic.proofs.leaves.rails_of_leaves.Goals as goal

pub loop-one-preserved : goal.loop-one-preserved
loop-one-preserved c = record {
  extends = grows c.args.diagrams.now c.loop-one.diagrams c.rail_of_leaf.new.diagrams c.loop-one.invariant.extends c.in_ok-rail.ensures.extends;
  long =
      let pushed = ap length c.in_ok-push.ensures.items in
      let more = length_push c.loop-one.all.items c.in_ok-rail.rail in
      omega (arith, pushed, more, c.loop-one.invariant.long);
  each = each_pushed (λ n (rail : Rail). (one : SystemLeaf) → slice_get c.args.parts.now.leaves n ≡ Some one → IsLeafRail c.rail_of_leaf.new.diagrams c.args.parts.now c.args.before.now one rail)
      c.loop-one.all.items c.push.new.self.items c.loop-one.one-index c.in_ok-rail.rail c.loop-one.invariant.long c.in_ok-push.ensures.items
      (λ n rail at one there. leaf_rail_grows c.loop-one.diagrams c.rail_of_leaf.new.diagrams c.args.parts.now c.args.before.now one rail c.in_ok-rail.ensures.extends (c.loop-one.invariant.each n rail at one there))
      (λ one there.
      let read : get_or c.as_slice-one-items.result.now c.loop-one.one-index (leaf.Input 0) ≡ one =
      get_or_from_slice_get c.as_slice-one-items.result.now c.loop-one.one-index one (leaf.Input 0)
      (ap (λ (xs : List SystemLeaf). slice_get xs c.loop-one.one-index) c.as_slice-one-items.ensures ∙ there) in
      subst (λ x. IsLeafRail c.rail_of_leaf.new.diagrams c.args.parts.now c.args.before.now x c.in_ok-rail.rail) read c.in_ok-rail.ensures.rail);
}
