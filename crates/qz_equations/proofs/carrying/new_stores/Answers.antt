use Rattle.std.proofs.Common.{◌≡◌, List, Some, None, refl, ap, sym, subst, ◌∙◌, arith, length}
use Rattle.std.specs.Prelude.{slice_get}
use Rattle.std.proofs.lemmas.Grind.{common_steps}
use Rattle.std.proofs.lemmas.Option.{slice_get_read}
use Rattle.qz_system.specs.declared.parts.Cell.{Cell}
use Rattle.qz_wires.specs.WireTable.{types_in}
use Rattle.qz_wires.proofs.Through.{through}
use Rattle.qz_equations.specs.declared.tallies.StoreNets.{StoreNets}
use Rattle.qz_equations.specs.Ends.{AreStores, ShowStores}
use Rattle.qz_equations.proofs.Keeping.{stores_kept}
use Rattle.qz_equations.proofs.StoreLemmas.{stores_more, show_stores_more}
use Rattle.qz_equations.proofs.carrying.new_stores.Goals as goal

pub loop-cell-preserved : goal.loop-cell-preserved
loop-cell-preserved c =
    let parts = c.args.parts.now in
    let old = c.loop-cell.stores.items in
    let cells = c.as_slice-cell-items.result.now in
    let cell = c.cell-item.result in
    let there : slice_get parts.cells (length old) ≡ Some cell =
    ap (λ (all : List Cell). slice_get all (length old)) (sym c.as_slice-cell-items.ensures)
    ∙ ap (slice_get cells) c.loop-cell.invariant.size ∙ slice_get_read cells (length cells) c.loop-cell.cell-index cell refl c.loop-cell-test.true c.cell-item.is in
    record {
      extends = through c.loop-cell.invariant.extends c.in_ok-store.ensures.extends;
      size = grind (arith, common_steps);
      typed = subst (AreStores (types_in c.new_store.new.wires) parts) (sym c.in_ok-push.ensures.items)
          (stores_more (types_in c.new_store.new.wires) parts old c.in_ok-store.store cell there
          (stores_kept c.in_ok-store.ensures.extends c.loop-cell.invariant.typed) c.in_ok-store.ensures.store);
      shown = λ settled reads knows laters.
          let P : List StoreNets → Type 0 = λ stores. ShowStores settled parts stores knows laters (λ n. None) in
          subst P (sym c.in_ok-push.ensures.items) (show_stores_more settled parts old c.in_ok-store.store knows laters (λ n. None) cell there
          (c.loop-cell.invariant.shown settled (c.in_ok-store.ensures.extends.reads settled reads) knows laters) (c.in_ok-store.ensures.means settled reads));
    }
