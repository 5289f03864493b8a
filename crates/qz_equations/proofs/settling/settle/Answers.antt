use Rattle.std.proofs.Common.{Option, sym, subst}
use Rattle.std.specs.Option.{option_map_or}
use Rattle.qz_values.specs.declared.Know.TheVariants.{Unknown}
use Rattle.qz_system.specs.declared.parts.Inst.{Inst}
use Rattle.qz_system.specs.Rounds.{settles}
use Rattle.qz_wires.specs.WireTable.{types_in}
use Rattle.qz_wires.specs.Rails.{Shows, IsRail}
use Rattle.qz_equations.proofs.InstanceLemmas.{type_is, same_type_of}
use Rattle.qz_equations.proofs.settling.settle.Goals as goal

pub settle_cell-requires-clause-cell : goal.settle_cell-requires-clause-cell
settle_cell-requires-clause-cell c = c.cell_of-cell.ensures c.instance_at-one.result.now c.instance_at-one.ensures

pub settle_cell-requires-clause-writers : goal.settle_cell-requires-clause-writers
settle_cell-requires-clause-writers c =
    c.requires.writers c.cell_of-cell.result.now.ty
    (type_is c.args.parts.now c.args.number c.instance_at-one.result.now c.cell_of-cell.result.now c.instance_at-one.ensures
    (c.cell_of-cell.ensures c.instance_at-one.result.now c.instance_at-one.ensures))

pub returns-clause-rail : goal.returns-clause-rail
returns-clause-rail c = λ ty is.
    subst (λ t. IsRail (types_in c.settle_cell.new.wires) t c.in_ok-r.r)
    (same_type_of c.args.parts.now c.args.number c.instance_at-one.result.now c.cell_of-cell.result.now ty c.instance_at-one.ensures
    (c.cell_of-cell.ensures c.instance_at-one.result.now c.instance_at-one.ensures) is)
    c.in_ok-r.ensures.rail

pub returns-clause-means : goal.returns-clause-means
returns-clause-means c = λ nets reads v holds k h.
    subst (λ (o : Option Inst). Shows nets c.in_ok-r.r (option_map_or (λ (one : Inst). settles c.args.parts.now v one k) o Unknown))
    (sym c.instance_at-one.ensures) (c.in_ok-r.ensures.means nets reads v holds k h)
