use Rattle.std.proofs.Common.{◌≡◌, refl, true, ap, sym, subst, ◌∙◌, arith, length}
use Rattle.std.proofs.lemmas.Option.{slice_get_read}
use Rattle.qz_nets.specs.Readings.{listed}
use Rattle.qz_syntax.specs.declared.places.Later.{Later}
use Rattle.qz_meaning.specs.Scenes.{store_of}
use Rattle.qz_meaning.specs.Settling.{settled_later}
use Rattle.qz_system.specs.Writers.{verdict_of}
use Rattle.qz_system.specs.Nexts.{is_told}
use Rattle.qz_equations.specs.Tallies.{ShowsStore}
use Rattle.qz_equations.proofs.InstanceLemmas.{there, type_is}
use Rattle.qz_equations.proofs.carrying.store_from.Goals as goal

pub store_of_cell-requires-clause-value : goal.store_of_cell-requires-clause-value
store_of_cell-requires-clause-value c =
    let parts = c.args.parts.now in
    let one = there parts c.args.instance c.requires.within in
    let rails = c.args.last.now.instances.items in
    c.requires.last.instances.each c.args.instance c.args.cell.now.ty c.index.result.now
    (type_is parts c.args.instance one.0 c.args.cell.now one.1 (c.requires.cell one.0 one.1))
    (slice_get_read rails (length rails) c.args.instance c.index.result.now refl (let e = c.requires.last.instances.count in let h = c.requires.within in omega arith) c.index.ensures)

pub store_of_cell-requires-clause-delayed : goal.store_of_cell-requires-clause-delayed
store_of_cell-requires-clause-delayed c =
    let parts = c.args.parts.now in
    let one = there parts c.args.instance c.requires.within in
    let tallies = c.args.last.now.delayed.items in
    c.requires.last.delayed.each c.args.instance c.args.cell.now.ty c.index-2.result.now
    (type_is parts c.args.instance one.0 c.args.cell.now one.1 (c.requires.cell one.0 one.1))
    (slice_get_read tallies (length tallies) c.args.instance c.index-2.result.now refl (let e = c.requires.last.delayed.count in let h = c.requires.within in omega arith) c.index-2.ensures)

pub returns-clause-means : goal.returns-clause-means
returns-clause-means c = λ settled reads knows laters know ends.
    let parts = c.args.parts.now in
    let i = c.args.instance in
    let one = there parts i c.requires.within in
    let rails = c.args.last.now.instances.items in
    let tallies = c.args.last.now.delayed.items in
    let rail = slice_get_read rails (length rails) i c.index.result.now refl (let e = c.requires.last.instances.count in let h = c.requires.within in omega arith) c.index.ensures in
    let tally = slice_get_read tallies (length tallies) i c.index-2.result.now refl (let e = c.requires.last.delayed.count in let h = c.requires.within in omega arith) c.index-2.ensures in
    let is = ends.later_is i one.0 one.1 in
    let told : is_told (settled_later (verdict_of know i true parts.acts)) ≡ true = ap is_told (sym is) ∙ ends.told i one.0 one.1 in
    let P : Later → Type 0 = λ l. ShowsStore settled c.in_ok-r.r (store_of c.args.cell.now.class c.args.cell.now.ty (listed knows i) l) in
    subst P (sym is)
    (c.in_ok-r.ensures.means settled reads (listed knows i) (verdict_of know i true parts.acts) (ends.instances i c.index.result.now rail)
    (ends.delayed i c.index-2.result.now tally) (ends.known i one.0 one.1) told)
