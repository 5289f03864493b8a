use Rattle.std.proofs.Common.{◌≡◌, ℕ, List, Some, ap, sym, subst, ◌∙◌, arith, length}
use Rattle.std.specs.Prelude.{slice_get}
use Rattle.std.proofs.lemmas.Grind.{common_steps}
use Rattle.qz_system.specs.Nexts.{source}
use Rattle.qz_wires.specs.WireTable.{types_in}
use Rattle.qz_wires.proofs.Through.{through}
use Rattle.qz_equations.specs.declared.tallies.StoreNets.{StoreNets}
use Rattle.qz_equations.specs.Tallies.{ShowsStore}
use Rattle.qz_equations.specs.Ends.{AreStores, ShowStores, coming}
use Rattle.qz_equations.proofs.InstanceLemmas.{cell_there}
use Rattle.qz_equations.proofs.Keeping.{last_kept, stores_kept}
use Rattle.qz_equations.proofs.StoreLemmas.{stores_more, show_stores_more}
use Rattle.qz_equations.proofs.nexts.next_stores.Goals as goal

pub next_store-requires-clause-last : goal.next_store-requires-clause-last
next_store-requires-clause-last c = last_kept c.loop-number.invariant.extends c.requires.last

pub next_store-requires-clause-carried : goal.next_store-requires-clause-carried
next_store-requires-clause-carried c = stores_kept c.loop-number.invariant.from c.in_ok-carried.ensures.typed

pub loop-number-preserved : goal.loop-number-preserved
loop-number-preserved c =
    let parts = c.args.parts.now in
    let old = c.loop-number.stores.items in
    let count = c.loop-number.invariant.size in
    let one = cell_there parts c.loop-number.number (let h = c.loop-number-test.true in let e = c.len-number-end.ensures in omega arith) in
    let there : slice_get parts.cells (length old) ≡ Some one.0 = ap (slice_get parts.cells) count ∙ one.1 in
    record {
      extends = through c.loop-number.invariant.extends c.in_ok-store.ensures.extends;
      from = through c.loop-number.invariant.from c.in_ok-store.ensures.extends;
      size = grind (arith, common_steps);
      typed = subst (AreStores (types_in c.next_store.new.wires) parts) (sym c.in_ok-push.ensures.items)
          (stores_more (types_in c.next_store.new.wires) parts old c.in_ok-store.store one.0 there
          (stores_kept c.in_ok-store.ensures.extends c.loop-number.invariant.typed) (c.in_ok-store.ensures.typed one.0 one.1));
      shown = λ settled reads knows laters know ends.
          let from = λ (n : ℕ). source parts know n in
          let before = c.in_ok-store.ensures.extends.reads settled reads in
          let at_carried = c.loop-number.invariant.from.reads settled before in
          let carried = c.in_ok-carried.ensures.means settled at_carried knows laters know ends in
          let here = c.in_ok-store.ensures.means settled reads knows laters know ends carried one.0 one.1 in
          let P : List StoreNets → Type 0 = λ stores. ShowStores settled parts stores knows laters from in
          subst P (sym c.in_ok-push.ensures.items) (show_stores_more settled parts old c.in_ok-store.store knows laters from one.0 there
          (c.loop-number.invariant.shown settled before knows laters know ends)
          (subst (λ n. ShowsStore settled c.in_ok-store.store (coming knows laters one.0 (from n))) (sym count) here));
    }
