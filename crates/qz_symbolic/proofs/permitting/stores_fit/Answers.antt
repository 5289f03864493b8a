use Rattle.std.proofs.Common.{◌∙◌, List, length, get_or, ap, sym, arith}
use Rattle.std.specs.Prelude.{◌&&◌}
use Rattle.std.proofs.lemmas.List.{drop_all}
use Rattle.qz_system.specs.declared.parts.Cell.{Cell}
use Rattle.qz_system.specs.Valuations.{have_stores}
use Rattle.qz_symbolic.proofs.Growing.{grows, views_before}
use Rattle.qz_symbolic.proofs.StoreBits.{have_more, and_all, store_at, value_read}
use Rattle.qz_symbolic.proofs.permitting.stores_fit.Goals as goal

pub store_fits-requires-clause-stored : goal.store_fits-requires-clause-stored
store_fits-requires-clause-stored c =
    store_at c.args.diagrams.now c.loop-n.diagrams c.args.parts.now c.args.stores.now c.as_slice-cell-items.result.now c.loop-n.n c.cell-item.result c.index-stores-n.result
    c.loop-n.invariant.extends c.requires.stores c.as_slice-cell-items.ensures c.loop-n-test.true c.cell-item.is c.index-stores-n.is

pub store_fits-requires-clause-lives : goal.store_fits-requires-clause-lives
store_fits-requires-clause-lives c = λ reading v views.
    let long = c.requires.lives.long in
    let same = ap length c.as_slice-cell-items.ensures in
    let test = c.loop-n-test.true in
    value_read reading c.args.lives.now c.loop-n.n (record { 0 = 0 }) (omega (arith, long, same, test))
    ∙ c.requires.lives.says reading v (views_before c.args.diagrams.now c.loop-n.diagrams c.args.parts.now v reading c.loop-n.invariant.extends views) c.loop-n.n (omega (arith, same, test))

pub loop-n-preserved : goal.loop-n-preserved
loop-n-preserved c = record {
  extends = grows c.args.diagrams.now c.store_fits.new.diagrams c.apply.new.self (grows c.args.diagrams.now c.loop-n.diagrams c.store_fits.new.diagrams c.loop-n.invariant.extends c.in_ok-one.ensures.extends) c.in_ok-so_far.ensures.extends;
  below = c.in_ok-so_far.ensures.below;
  says = λ reading v views.
      let second = views_before c.store_fits.new.diagrams c.apply.new.self c.args.parts.now v reading c.in_ok-so_far.ensures.extends views in
      let first = views_before c.loop-n.diagrams c.store_fits.new.diagrams c.args.parts.now v reading c.in_ok-one.ensures.extends second in
      let same = ap length c.as_slice-cell-items.ensures in
      let test = c.loop-n-test.true in
      have_more c.args.parts.now v c.loop-n.n c.cell-item.result (reading.values c.loop-n.so_far.0) (reading.values c.in_ok-one.one.0) (reading.values c.in_ok-so_far.so_far.0)
      (omega (arith, same, test)) (c.cell-item.is ∙ ap (λ (xs : List Cell). get_or xs c.loop-n.n c.cell-item.result) c.as_slice-cell-items.ensures)
      (c.in_ok-one.ensures.says reading v second) (c.in_ok-so_far.ensures.means reading views.reads)
      ∙ c.loop-n.invariant.says reading v first;
}

pub returns-clause-says : goal.returns-clause-says
returns-clause-says c = λ reading v views.
    let same = ap length c.as_slice-cell-items.ensures in
    let test = c.loop-n-test.false in
    let none = drop_all c.loop-n.n c.args.parts.now.cells (omega (arith, same, test)) in
    sym (and_all (reading.values c.loop-n.so_far.0))
    ∙ ap (λ (xs : List Cell). reading.values c.loop-n.so_far.0 && have_stores c.args.parts.now v c.loop-n.n xs) (sym none)
    ∙ c.loop-n.invariant.says reading v views
