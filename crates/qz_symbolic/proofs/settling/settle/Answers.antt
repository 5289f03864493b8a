use Rattle.std.proofs.Common.{◌∙◌, length, get_or, ap, sym, subst, arith}
use Rattle.std.proofs.lemmas.Option.{slice_get_within, slice_get-get_or}
use Rattle.qz_syntax.specs.declared.places.Store.{Store}
use Rattle.qz_rails.specs.declared.rail.Rail.{Rail}
use Rattle.qz_rails.specs.Rails.{IsRail, know_in}
use Rattle.qz_meaning.specs.Settling.{with_pending, settled}
use Rattle.qz_tallies.specs.Tallies.{verdict_in}
use Rattle.qz_symbolic.proofs.Lists.{item_at}
use Rattle.qz_symbolic.proofs.Growing.{grows, views_before, rail_grows}
use Rattle.qz_symbolic.proofs.StoreBits.{value_read}
use Rattle.qz_symbolic.proofs.Acting.{cell_there, instance_type_read, tally_grows}
use Rattle.qz_symbolic.proofs.SettledRails.{settled_rails}
use Rattle.qz_symbolic.proofs.settling.settle.Goals as goal

pub bounds-as_slice-number : goal.bounds-as_slice-number
bounds-as_slice-number c =
    let within = cell_there c.args.parts.now c.requires.parts c.args.n c.args.one.now c.requires.one in
    let same = ap length c.as_slice.ensures in
    omega (arith, within, same)

pub bounds-kept-number : goal.bounds-kept-number
bounds-kept-number c =
    let within = cell_there c.args.parts.now c.requires.parts c.args.n c.args.one.now c.requires.one in
    let long = c.requires.stores.long in
    omega (arith, within, long)

pub bounds-kept-number-2 : goal.bounds-kept-number-2
bounds-kept-number-2 c =
    let within = cell_there c.args.parts.now c.requires.parts c.args.n c.args.one.now c.requires.one in
    let long = c.requires.lives.long in
    omega (arith, within, long)

pub begin-requires-clause-stored : goal.begin-requires-clause-stored
begin-requires-clause-stored c =
    let within = cell_there c.args.parts.now c.requires.parts c.args.n c.args.one.now c.requires.one in
    let same = ap length c.as_slice.ensures in
    let long = c.requires.stores.long in
    c.requires.stores.each c.args.one.now.cell c.index-as_slice-number.result (get_or c.args.kept.stores.now c.args.one.now.cell c.index-kept-number.result)
    (item_at c.as_slice.result.now c.args.parts.now.cells c.args.one.now.cell c.index-as_slice-number.result c.as_slice.ensures (omega (arith, within, same)) c.index-as_slice-number.is)
    (slice_get-get_or c.args.kept.stores.now c.args.one.now.cell c.index-kept-number.result (omega (arith, within, long)))

pub begin-requires-clause-lives : goal.begin-requires-clause-lives
begin-requires-clause-lives c = λ reading v views.
    let within = cell_there c.args.parts.now c.requires.parts c.args.n c.args.one.now c.requires.one in
    let long = c.requires.lives.long in
    value_read reading c.args.kept.lives.now c.args.one.now.cell (record { 0 = 0 }) (omega (arith, within, long))
    ∙ c.requires.lives.says reading v views c.args.one.now.cell within

pub bounds-tallied-n : goal.bounds-tallied-n
bounds-tallied-n c =
    let within = slice_get_within c.args.parts.now.instances c.args.n c.args.one.now c.requires.one in
    let long = c.requires.now.long in
    omega (arith, within, long)

pub offset_bounds-tallied-n : goal.offset_bounds-tallied-n
offset_bounds-tallied-n c =
    let within = slice_get_within c.args.parts.now.instances c.args.n c.args.one.now c.requires.one in
    let few = c.requires.parts.fits_in_size.few_instances in
    omega (arith, within, few)

pub bounds-tallied-n-2 : goal.bounds-tallied-n-2
bounds-tallied-n-2 c =
    let within = slice_get_within c.args.parts.now.instances c.args.n c.args.one.now c.requires.one in
    let long = c.requires.later.long in
    omega (arith, within, long)

pub offset_bounds-tallied-n-2 : goal.offset_bounds-tallied-n-2
offset_bounds-tallied-n-2 c =
    let within = slice_get_within c.args.parts.now.instances c.args.n c.args.one.now c.requires.one in
    let few = c.requires.parts.fits_in_size.few_instances in
    omega (arith, within, few)

pub settle_now-requires-clause-writers : goal.settle_now-requires-clause-writers
settle_now-requires-clause-writers c =
    let within = slice_get_within c.args.parts.now.instances c.args.n c.args.one.now c.requires.one in
    let long = c.requires.now.long in
    let cell = cell_there c.args.parts.now c.requires.parts c.args.n c.args.one.now c.requires.one in
    let same = ap length c.as_slice.ensures in
    tally_grows c.args.diagrams.now c.begin.new.diagrams c.index-as_slice-number.result.ty (get_or c.args.tallied.now.now c.args.n c.index-tallied-n.result) c.in_ok-begun.ensures.extends
    (c.requires.now.fits c.args.n c.index-as_slice-number.result.ty (get_or c.args.tallied.now.now c.args.n c.index-tallied-n.result)
    (instance_type_read c.args.parts.now c.args.n c.args.one.now c.index-as_slice-number.result c.requires.one
    (item_at c.as_slice.result.now c.args.parts.now.cells c.args.one.now.cell c.index-as_slice-number.result c.as_slice.ensures (omega (arith, cell, same)) c.index-as_slice-number.is))
    (slice_get-get_or c.args.tallied.now.now c.args.n c.index-tallied-n.result (omega (arith, within, long))))

pub with_later-requires : goal.with_later-requires
with_later-requires c =
    let within = slice_get_within c.args.parts.now.instances c.args.n c.args.one.now c.requires.one in
    let long = c.requires.later.long in
    let cell = cell_there c.args.parts.now c.requires.parts c.args.n c.args.one.now c.requires.one in
    let same = ap length c.as_slice.ensures in
    tally_grows c.args.diagrams.now c.settle_now.new.diagrams c.index-as_slice-number.result.ty (get_or c.args.tallied.later.now c.args.n c.index-tallied-n-2.result)
    (grows c.args.diagrams.now c.begin.new.diagrams c.settle_now.new.diagrams c.in_ok-begun.ensures.extends c.in_ok-now.ensures.extends)
    (c.requires.later.fits c.args.n c.index-as_slice-number.result.ty (get_or c.args.tallied.later.now c.args.n c.index-tallied-n-2.result)
    (instance_type_read c.args.parts.now c.args.n c.args.one.now c.index-as_slice-number.result c.requires.one
    (item_at c.as_slice.result.now c.args.parts.now.cells c.args.one.now.cell c.index-as_slice-number.result c.as_slice.ensures (omega (arith, cell, same)) c.index-as_slice-number.is))
    (slice_get-get_or c.args.tallied.later.now c.args.n c.index-tallied-n-2.result (omega (arith, within, long))))

pub returns-clause-rails : goal.returns-clause-rails
returns-clause-rails c =
    let within = slice_get_within c.args.parts.now.instances c.args.n c.args.one.now c.requires.one in
    let now_long = c.requires.now.long in
    let later_long = c.requires.later.long in
    let cell = cell_there c.args.parts.now c.requires.parts c.args.n c.args.one.now c.requires.one in
    let same = ap length c.as_slice.ensures in
    let ty = c.index-as_slice-number.result.ty in
    settled_rails c.with_later.new.diagrams c.args.parts.now c.args.n c.args.one.now c.index-as_slice-number.result c.requires.one
    (item_at c.as_slice.result.now c.args.parts.now.cells c.args.one.now.cell c.index-as_slice-number.result c.as_slice.ensures (omega (arith, cell, same)) c.index-as_slice-number.is)
    c.args.tallied.now.now c.args.tallied.later.now (get_or c.args.tallied.now.now c.args.n c.index-tallied-n.result) (get_or c.args.tallied.later.now c.args.n c.index-tallied-n-2.result)
    (slice_get-get_or c.args.tallied.now.now c.args.n c.index-tallied-n.result (omega (arith, within, now_long)))
    (slice_get-get_or c.args.tallied.later.now c.args.n c.index-tallied-n-2.result (omega (arith, within, later_long)))
    c.in_ok-r.r
    (record {
      now = subst (λ (r : Rail). IsRail c.with_later.new.diagrams c.index-as_slice-number.result.ty r) (sym c.in_ok-r.ensures.now)
          (rail_grows c.settle_now.new.diagrams c.with_later.new.diagrams c.index-as_slice-number.result.ty c.in_ok-now.now c.in_ok-r.ensures.extends c.in_ok-now.ensures.rail);
      later = c.in_ok-r.ensures.later;
      absent = c.in_ok-r.ensures.absent;
    })
    (λ reading v views.
    let second = views_before c.settle_now.new.diagrams c.with_later.new.diagrams c.args.parts.now v reading c.in_ok-r.ensures.extends views in
    let first = views_before c.begin.new.diagrams c.settle_now.new.diagrams c.args.parts.now v reading c.in_ok-now.ensures.extends second in
    ap (λ (r : Rail). know_in reading c.index-as_slice-number.result.ty r) c.in_ok-r.ensures.now
    ∙ c.in_ok-now.ensures.means reading second.reads
    ∙ ap (λ (s : Store). settled c.index-as_slice-number.result.class c.index-as_slice-number.result.ty s
    (with_pending s (verdict_in reading c.index-as_slice-number.result.ty (get_or c.args.tallied.now.now c.args.n c.index-tallied-n.result)))) (c.in_ok-begun.ensures.says reading v first))
    c.in_ok-r.ensures.means c.in_ok-r.ensures.where_absent
