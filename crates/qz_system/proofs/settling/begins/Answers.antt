use Rattle.qz_system.proofs.FitLemmas.{cell_typed, cell_value}
use Rattle.qz_system.proofs.settling.begins.Goals as goal

pub stored-requires : goal.stored-requires
stored-requires c =
    rw c.store_of.ensures (cell_value c.args.parts.now c.args.v.now c.requires.fits c.args.one.now.cell c.args.cell.now c.requires.cell)

pub zero_of-requires : goal.zero_of-requires
zero_of-requires c = cell_typed c.args.parts.now c.requires.parts c.args.one.now.cell c.args.cell.now c.requires.cell
