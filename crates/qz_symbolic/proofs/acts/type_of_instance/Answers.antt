use Rattle.std.proofs.Common.{length, ap, arith}
use Rattle.qz_symbolic.proofs.Lists.{item_at}
use Rattle.qz_symbolic.proofs.Acting.{instance_type_read, cell_there}
use Rattle.qz_symbolic.proofs.acts.type_of_instance.Goals as goal

pub returns : goal.returns
returns c =
    let same = ap length c.as_slice.ensures in
    let there = c.requires.there in
    let at = item_at c.as_slice.result.now c.args.parts.now.instances c.args.n c.index-as_slice-n.result c.as_slice.ensures (omega (arith, same, there)) c.index-as_slice-n.is in
    let cells = ap length c.as_slice-2.ensures in
    let within = cell_there c.args.parts.now c.requires.parts c.args.n c.index-as_slice-n.result at in
    instance_type_read c.args.parts.now c.args.n c.index-as_slice-n.result c.index-as_slice-one.result at
    (item_at c.as_slice-2.result.now c.args.parts.now.cells c.index-as_slice-n.result.cell c.index-as_slice-one.result c.as_slice-2.ensures (omega (arith, cells, within)) c.index-as_slice-one.is)
