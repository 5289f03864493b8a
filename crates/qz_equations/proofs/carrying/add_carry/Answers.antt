use Rattle.std.proofs.Common.{Bool, refl, subst, arith, length, if◌then◌else◌}
use Rattle.std.proofs.lemmas.Option.{slice_get_read}
use Rattle.qz_values.specs.declared.Ty.TheVariants.{Bool as Truth}
use Rattle.qz_values.specs.Values.{is_yes}
use Rattle.qz_values.specs.Knowledge.{knows_yes}
use Rattle.qz_verilog.specs.Meaning.{value_at}
use Rattle.qz_wires.specs.WireTable.{types_in}
use Rattle.qz_wires.proofs.Through.{through}
use Rattle.qz_equations.specs.Tallies.{ShowsStore}
use Rattle.qz_equations.specs.Ends.{store_at, coming}
use Rattle.qz_equations.proofs.NetLemmas.{net_within}
use Rattle.qz_equations.proofs.Keeping.{store_kept, stores_kept}
use Rattle.qz_equations.proofs.FlagLemmas.{flag_known}
use Rattle.qz_equations.proofs.StoreLemmas.{carry_cell_within, carry_net, stores_written, carry_written}
use Rattle.qz_equations.proofs.carrying.add_carry.Goals as goal

pub choose_store-requires-clause-flag : goal.choose_store-requires-clause-flag
choose_store-requires-clause-flag c =
    let is = carry_net c.args.parts.now c.args.carry c.requires.carry in
    let within = net_within c.args.parts.now.table c.args.carry.when.0 Truth is in
    let nets = c.args.last.now.nets.items in
    c.in_ok-from.ensures.extends.types c.index.result.now.value Truth
    (c.requires.last.nets.each c.args.carry.when.0 Truth c.index.result.now is
    (slice_get_read nets (length nets) c.args.carry.when.0 c.index.result.now refl (let e = c.requires.last.net_count in omega (arith, within)) c.index.ensures)).value_net

pub choose_store-requires-clause-second : goal.choose_store-requires-clause-second
choose_store-requires-clause-second c =
    let within = carry_cell_within c.args.parts.now c.args.carry c.requires.carry in
    let stores = c.args.stores.now.items in
    store_kept c.in_ok-from.ensures.extends (c.requires.stores.each c.args.carry.cell c.cell_at-cell.result.now c.index-2.result.now c.cell_at-cell.ensures
    (slice_get_read stores (length stores) c.args.carry.cell c.index-2.result.now refl (let e = c.requires.size in omega (arith, within)) c.index-2.ensures))

pub returns-clause-extends : goal.returns-clause-extends
returns-clause-extends c = through c.in_ok-from.ensures.extends c.in_ok-store.ensures.extends

pub returns-clause-typed : goal.returns-clause-typed
returns-clause-typed c =
    stores_written (types_in c.choose_store.new.wires) c.args.parts.now c.args.stores.now.items c.args.carry.cell c.in_ok-store.store c.cell_at-cell.result.now
    c.cell_at-cell.ensures (stores_kept (through c.in_ok-from.ensures.extends c.in_ok-store.ensures.extends) c.requires.stores) c.in_ok-store.ensures.typed

pub returns-clause-means : goal.returns-clause-means
returns-clause-means c = λ settled reads knows laters know ends from shown.
    let parts = c.args.parts.now in
    let carry = c.args.carry in
    let cell = c.cell_at-cell.result.now in
    let at_from = c.in_ok-store.ensures.extends.reads settled reads in
    let is = carry_net parts carry c.requires.carry in
    let within = net_within parts.table carry.when.0 Truth is in
    let nets = c.args.last.now.nets.items in
    let rail = ends.nets carry.when.0 c.index.result.now
    (slice_get_read nets (length nets) carry.when.0 c.index.result.now refl (let e = c.requires.last.net_count in omega (arith, within)) c.index.ensures) in
    let holds = flag_known (is_yes (value_at settled c.index.result.now.known)) (value_at settled c.index.result.now.value) (know carry.when.0) rail
    (ends.plain carry.when.0 Truth is) in
    let stores = c.args.stores.now.items in
    let cell_in = carry_cell_within parts carry c.requires.carry in
    let old = shown carry.cell cell c.index-2.result.now c.cell_at-cell.ensures
    (slice_get_read stores (length stores) carry.cell c.index-2.result.now refl (let e = c.requires.size in omega (arith, cell_in)) c.index-2.ensures) in
    let new = c.in_ok-from.ensures.means settled at_from knows laters know ends in
    let chosen = c.in_ok-store.ensures.means settled reads (store_at knows laters cell carry.instance) (coming knows laters cell (from carry.cell)) new old in
    let P : Bool → Type 0 = λ b. ShowsStore settled c.in_ok-store.store (if b then store_at knows laters cell carry.instance else coming knows laters cell (from carry.cell)) in
    carry_written settled parts stores knows laters from carry (knows_yes (know carry.when.0)) c.in_ok-store.store cell c.cell_at-cell.ensures shown (subst P holds chosen)
