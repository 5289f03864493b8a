use Rattle.std.proofs.Common.{◌∙◌, ◌+◌, ap, sym, arith}
use Rattle.qz_symbolic.proofs.Spots.{cell_read, cell_size_more}
use Rattle.qz_symbolic.proofs.variables.cells_size.Goals as goal

pub loop-n-preserved : goal.loop-n-preserved
loop-n-preserved c =
    let more = cell_size_more c.args.parts.now c.args.j c.loop-n.n c.cell-item.result.ty
    (cell_read c.args.parts.now c.as_slice-cell-items.result.now c.loop-n.n c.cell-item.result c.as_slice-cell-items.ensures c.loop-n-test.true c.cell-item.is)
    c.cell_size-size.result c.cell_size-size.ensures.size in
    record { size = ap (λ n. n + c.cell_size-size.result) c.loop-n.invariant.size ∙ sym more; few = omega arith }
