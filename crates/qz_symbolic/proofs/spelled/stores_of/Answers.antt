use Rattle.std.proofs.Common.{◌≡◌, ◌∙◌, Some, length, ap, subst, refl, arith}
use Rattle.std.specs.Prelude.{slice_get}
use Rattle.std.proofs.lemmas.List.{length_push}
use Rattle.std.proofs.lemmas.Option.{slice_get_read}
use Rattle.qz_tallies.specs.declared.stored.Stored.{Stored}
use Rattle.qz_system.specs.declared.parts.Cell.{Cell}
use Rattle.qz_symbolic.specs.Views.{IsStoreOf}
use Rattle.qz_symbolic.proofs.Growing.{grows, store_grows}
use Rattle.qz_symbolic.proofs.Lists.{each_pushed, item_at}
use Rattle.qz_symbolic.proofs.spelled.stores_of.Goals as goal

pub store_of-requires-clause-own : goal.store_of-requires-clause-own
store_of-requires-clause-own c =
    let within = c.requires.variables.cell_count in
    c.requires.variables.cells c.loop-n.n c.index.result.now
    (slice_get_read c.args.variables.now.cells.items (length c.args.variables.now.cells.items) c.loop-n.n c.index.result.now refl
    (let end = ap length c.as_slice-cell-items.ensures in let test = c.loop-n-test.true in omega (arith, within, end, test)) c.index.ensures)

pub store_of-requires-clause-cell : goal.store_of-requires-clause-cell
store_of-requires-clause-cell c = item_at c.as_slice-cell-items.result.now c.args.parts.now.cells c.loop-n.n c.cell-item.result c.as_slice-cell-items.ensures c.loop-n-test.true c.cell-item.is

pub loop-n-preserved : goal.loop-n-preserved
loop-n-preserved c = record {
  extends = grows c.args.diagrams.now c.loop-n.diagrams c.store_of.new.diagrams c.loop-n.invariant.extends c.in_ok-one.ensures.extends;
  long =
      let pushed = ap length c.in_ok-push.ensures.items in
      let more = length_push c.loop-n.all.items c.in_ok-one.one in
      omega (arith, pushed, more, c.loop-n.invariant.long);
  each = each_pushed (λ n (stored : Stored). (cell : Cell) → slice_get c.args.parts.now.cells n ≡ Some cell → IsStoreOf c.store_of.new.diagrams c.args.parts.now n cell stored)
      c.loop-n.all.items c.push.new.self.items c.loop-n.n c.in_ok-one.one c.loop-n.invariant.long c.in_ok-push.ensures.items
      (λ n stored at cell there. store_grows c.loop-n.diagrams c.store_of.new.diagrams c.args.parts.now n cell stored c.in_ok-one.ensures.extends (c.loop-n.invariant.each n stored at cell there))
      (λ cell there.
      let here = item_at c.as_slice-cell-items.result.now c.args.parts.now.cells c.loop-n.n c.cell-item.result c.as_slice-cell-items.ensures c.loop-n-test.true c.cell-item.is in
      let same : c.cell-item.result ≡ cell = cc in
      subst (λ x. IsStoreOf c.store_of.new.diagrams c.args.parts.now c.loop-n.n x c.in_ok-one.one) same c.in_ok-one.ensures.store);
}

pub returns-clause-stores : goal.returns-clause-stores
returns-clause-stores c = record {
  long =
      let end : c.loop-n.n ≡ length c.as_slice-cell-items.result.now = omega arith in
      c.loop-n.invariant.long ∙ end ∙ ap length c.as_slice-cell-items.ensures;
  each = λ n cell stored there at. c.loop-n.invariant.each n stored at cell there;
}
