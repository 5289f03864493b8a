use Rattle.std.proofs.Common.{Option, sym, subst}
use Rattle.std.specs.Option.{option_map_or}
use Rattle.qz_values.specs.declared.Know.TheVariants.{Unknown}
use Rattle.qz_meaning.specs.Settling.{with_pending, settled}
use Rattle.qz_system.specs.declared.parts.Cell.{Cell}
use Rattle.qz_system.specs.Rounds.{begins}
use Rattle.qz_wires.specs.Rails.{Shows}
use Rattle.qz_wires.proofs.Through.{through}
use Rattle.qz_equations.proofs.settling.settle_cell.Goals as goal

pub returns-clause-extends : goal.returns-clause-extends
returns-clause-extends c =
    through c.in_ok-store.ensures.extends (through c.in_ok-otherwise.ensures.extends (through c.in_ok-tally.ensures.extends c.in_ok-r.ensures.extends))

pub returns-clause-means : goal.returns-clause-means
returns-clause-means c = λ nets reads v holds k h.
    let at_tally = c.in_ok-r.ensures.extends.reads nets reads in
    let at_otherwise = c.in_ok-tally.ensures.extends.reads nets at_tally in
    let at_store = c.in_ok-otherwise.ensures.extends.reads nets at_otherwise in
    let parts = c.args.parts.now in
    let one = c.args.one.now in
    let store = c.in_ok-store.ensures.means nets at_store v holds in
    let otherwise = c.in_ok-otherwise.ensures.means nets at_otherwise (begins parts v one c.args.cell.now) store.value in
    let tally = c.in_ok-tally.ensures.means nets at_tally (begins parts v one c.args.cell.now) k store h in
    let rail = c.in_ok-r.ensures.means nets reads c.args.cell.now.class (begins parts v one c.args.cell.now)
    (with_pending (begins parts v one c.args.cell.now) k) otherwise tally in
    subst (λ (o : Option Cell). Shows nets c.in_ok-r.r
    (option_map_or (λ (cell : Cell). settled cell.class cell.ty (begins parts v one cell) (with_pending (begins parts v one cell) k)) o Unknown))
    (sym c.requires.cell) rail
