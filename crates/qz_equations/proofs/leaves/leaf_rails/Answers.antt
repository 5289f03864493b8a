use Rattle.std.proofs.Common.{◌≡◌, List, Some, ap, sym, subst, ◌∙◌, arith, length, get_or}
use Rattle.std.specs.Prelude.{slice_get}
use Rattle.std.proofs.lemmas.Grind.{common_steps}
use Rattle.std.proofs.lemmas.Option.{slice_get-get_or}
use Rattle.qz_nets.specs.Readings.{listed}
use Rattle.qz_system.specs.declared.parts.SystemLeaf.{SystemLeaf}
use Rattle.qz_system.specs.declared.parts.SystemLeaf.TheVariants as leaf
use Rattle.qz_system.specs.Rounds.{leaves_known}
use Rattle.qz_wires.specs.declared.rails.Rail.{Rail}
use Rattle.qz_wires.specs.WireTable.{types_in}
use Rattle.qz_wires.specs.Rails.{Shows, ShowEach}
use Rattle.qz_wires.proofs.Through.{through}
use Rattle.qz_equations.specs.Unrolled.{AreLeavesOf}
use Rattle.qz_equations.proofs.Keeping.{instances_kept, leaves_kept}
use Rattle.qz_wires.proofs.NetLists.{show_more}
use Rattle.qz_equations.proofs.LeafLemmas.{leaf_rails_more, leaf_at}
use Rattle.qz_equations.proofs.leaves.leaf_rails.Goals as goal

pub leaf_rail-requires-clause-now : goal.leaf_rail-requires-clause-now
leaf_rail-requires-clause-now c = instances_kept c.loop-leaf.invariant.extends c.requires.now

pub loop-leaf-preserved : goal.loop-leaf-preserved
loop-leaf-preserved c =
    let parts = c.args.parts.now in
    let old = c.loop-leaf.rails.items in
    let leaves = c.as_slice-leaf-items.result.now in
    let one = get_or leaves c.loop-leaf.leaf-index (leaf.Input 0) in
    let there : slice_get parts.leaves (length old) ≡ Some one =
    ap (λ (all : List SystemLeaf). slice_get all (length old)) (sym c.as_slice-leaf-items.ensures)
    ∙ ap (slice_get leaves) c.loop-leaf.invariant.size ∙ slice_get-get_or leaves c.loop-leaf.leaf-index (leaf.Input 0) c.loop-leaf-test.true in
    record {
      extends = through c.loop-leaf.invariant.extends c.in_ok-rail.ensures.extends;
      size = grind (arith, common_steps);
      rails = subst (AreLeavesOf (types_in c.leaf_rail.new.wires) parts) (sym c.in_ok-push.ensures.items)
          (leaf_rails_more parts old c.in_ok-rail.rail one there (types_in c.leaf_rail.new.wires)
          (leaves_kept c.in_ok-rail.ensures.extends c.loop-leaf.invariant.rails) c.in_ok-rail.ensures.rail);
      shown = λ nets reads v holds before now.
          let each = listed (leaves_known parts v before) in
          let P : List Rail → Type 0 = λ rails. ShowEach nets rails each in
          subst P (sym c.in_ok-push.ensures.items) (show_more nets old c.in_ok-rail.rail each
          (c.loop-leaf.invariant.shown nets (c.in_ok-rail.ensures.extends.reads nets reads) v holds before now)
          (subst (Shows nets c.in_ok-rail.rail) (sym (leaf_at parts v before (length old) one there)) (c.in_ok-rail.ensures.means nets reads v holds before now)));
    }
