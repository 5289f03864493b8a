use Rattle.qz_react.specs.Seeing.{instance_of}
use Rattle.qz_single.proofs.Placed.{output_cell}
use Rattle.qz_single.proofs.numbering.Numbering.cell.Goals as goal

pub returns-in-Formal : goal.returns-in-Formal
returns-in-Formal c = λ m is.
    output_cell m c.in-Formal.n (instance_of c.formal_instance.result) c.formal_instance.ensures c.number.result c.args.variable (c.number.ensures _ is.outputs) c.in-Formal.is
