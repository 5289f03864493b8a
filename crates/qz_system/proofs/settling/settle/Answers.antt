use Rattle.std.proofs.Common.{List, ap, sym, ◌∙◌}
use Rattle.std.specs.Prelude.{slice_get}
use Rattle.qz_system.specs.declared.parts.Cell.{Cell}
use Rattle.qz_system.proofs.FitLemmas.{cell_typed}
use Rattle.qz_system.proofs.settling.settle.Goals as goal

pub settle_cell-requires : goal.settle_cell-requires
settle_cell-requires c =
    cell_typed c.args.parts.now c.requires.parts c.args.one.now.cell c.in-Some.cell.now
    (ap (λ (cells : List Cell). slice_get cells c.args.one.now.cell) (sym c.as_slice.ensures) ∙ sym c.in-Some.ensures)
