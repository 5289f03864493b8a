use Rattle.std.proofs.Common.{◌∙◌, ℕ, Bool, List, length, ap, sym, arith}
use Rattle.std.specs.Prelude.{◌&&◌}
use Rattle.std.specs.List.{list_all}
use Rattle.std.proofs.lemmas.List.{drop_all}
use Rattle.qz_system.specs.Valuations.{is_new}
use Rattle.qz_symbolic.proofs.Growing.{grows, views_before}
use Rattle.qz_symbolic.proofs.StoreBits.{fits_long, new_more, and_all, store_read, store_at}
use Rattle.qz_symbolic.proofs.permitting.stores_are_new.Goals as goal

pub new-requires-clause-pending : goal.new-requires-clause-pending
new-requires-clause-pending c =
    (store_at c.args.diagrams.now c.loop-n.diagrams c.args.parts.now c.args.stores.now c.as_slice-cell-items.result.now c.loop-n.n c.cell-item.result c.index-stores-n.result
    c.loop-n.invariant.extends c.requires c.as_slice-cell-items.ensures c.loop-n-test.true c.cell-item.is c.index-stores-n.is).fits.pending

pub new-requires-clause-bits : goal.new-requires-clause-bits
new-requires-clause-bits c =
    (store_at c.args.diagrams.now c.loop-n.diagrams c.args.parts.now c.args.stores.now c.as_slice-cell-items.result.now c.loop-n.n c.cell-item.result c.index-stores-n.result
    c.loop-n.invariant.extends c.requires c.as_slice-cell-items.ensures c.loop-n-test.true c.cell-item.is c.index-stores-n.is).fits.bits

pub loop-n-preserved : goal.loop-n-preserved
loop-n-preserved c = record {
  extends = grows c.args.diagrams.now c.new.new.diagrams c.apply.new.self (grows c.args.diagrams.now c.loop-n.diagrams c.new.new.diagrams c.loop-n.invariant.extends c.in_ok-one.ensures.extends) c.in_ok-so_far.ensures.extends;
  below = c.in_ok-so_far.ensures.below;
  says = λ reading v views.
      let second = views_before c.new.new.diagrams c.apply.new.self c.args.parts.now v reading c.in_ok-so_far.ensures.extends views in
      let first = views_before c.loop-n.diagrams c.new.new.diagrams c.args.parts.now v reading c.in_ok-one.ensures.extends second in
      let is = store_at c.args.diagrams.now c.loop-n.diagrams c.args.parts.now c.args.stores.now c.as_slice-cell-items.result.now c.loop-n.n c.cell-item.result c.index-stores-n.result
      c.loop-n.invariant.extends c.requires c.as_slice-cell-items.ensures c.loop-n-test.true c.cell-item.is c.index-stores-n.is in
      let long = fits_long c.args.parts.now v views.spells.fits in
      let same = ap length c.as_slice-cell-items.ensures in
      let test = c.loop-n-test.true in
      new_more v c.loop-n.n (reading.values c.loop-n.so_far.0) (reading.values c.in_ok-one.one.0) (reading.values c.in_ok-so_far.so_far.0) (omega (arith, long, same, test))
      (c.in_ok-one.ensures.means reading second.reads
      ∙ store_read c.loop-n.diagrams c.args.parts.now c.loop-n.n c.cell-item.result c.index-stores-n.result is reading v first is_new)
      (c.in_ok-so_far.ensures.means reading views.reads)
      ∙ c.loop-n.invariant.says reading v first;
}

pub returns-clause-says : goal.returns-clause-says
returns-clause-says c = λ reading v views.
    let long = fits_long c.args.parts.now v views.spells.fits in
    let same = ap length c.as_slice-cell-items.ensures in
    let test = c.loop-n-test.false in
    let none = drop_all c.loop-n.n v.stores.items (omega (arith, long, same, test)) in
    sym (and_all (reading.values c.loop-n.so_far.0))
    ∙ ap (λ (xs : List (Bool × ℕ)). reading.values c.loop-n.so_far.0 && list_all (λ store. is_new store) xs) (sym none)
    ∙ c.loop-n.invariant.says reading v views
