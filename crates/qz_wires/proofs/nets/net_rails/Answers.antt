use Rattle.std.proofs.Common.{List, ap, sym, subst, ◌∙◌, arith}
use Rattle.std.proofs.lemmas.Grind.{common_steps}
use Rattle.qz_wires.specs.declared.rails.Rail.{Rail}
use Rattle.qz_wires.specs.WireTable.{types_in}
use Rattle.qz_nets.specs.Readings.{type_in}
use Rattle.qz_wires.specs.Rails.{Shows, ShowEach}
use Rattle.qz_wires.specs.NetRails.{AreNetRails}
use Rattle.qz_wires.proofs.Through.{through}
use Rattle.qz_wires.proofs.NetLists.{net_rails_more, net_rails_kept, leaf_rails_kept, show_more}
use Rattle.qz_wires.proofs.nets.net_rails.Goals as goal

pub loop-number-preserved : goal.loop-number-preserved
loop-number-preserved c =
    let old = c.loop-number.rails.items in
    let nets = c.args.nets.now in
    let types = types_in c.net_rail.new.wires in
    let count = c.loop-number.invariant.size in
    record {
      extends = through c.loop-number.invariant.extends c.in_ok-rail.ensures.extends;
      size = grind (arith, common_steps);
      leaves = leaf_rails_kept c.in_ok-rail.ensures.extends c.loop-number.invariant.leaves;
      rails = subst (AreNetRails types nets) (sym c.in_ok-push.ensures.items)
          (net_rails_more types nets old c.in_ok-rail.rail (net_rails_kept c.in_ok-rail.ensures.extends c.loop-number.invariant.rails)
          (λ t is. c.in_ok-rail.ensures.rail t (ap (type_in nets) (sym count) ∙ is)));
      means = λ settled reads v solves leaves.
          let P : List Rail → Type 0 = λ rails. ShowEach settled rails v.know in
          let before = c.loop-number.invariant.means settled (c.in_ok-rail.ensures.extends.reads settled reads) v solves leaves in
          subst P (sym c.in_ok-push.ensures.items) (show_more settled old c.in_ok-rail.rail v.know before
          (subst (λ n. Shows settled c.in_ok-rail.rail (v.know n)) (sym count)
          (c.in_ok-rail.ensures.means settled reads v solves leaves (subst P (sym c.deref.ensures.value) before))));
    }
