use Rattle.qz_vread.specs.RightSides.{types_of, inputs_of}
use Rattle.qz_vread.proofs.Forming.{selects_bit, selects_slice}
use Rattle.qz_vread.proofs.nets.Nets.selection.Goals as goal

pub returns-in-Some : goal.returns-in-Some
returns-in-Some c =
    selects_slice (types_of c.args.self.now) (inputs_of c.args.self.now) c.args.net.now c.args.indices.now c.in-Some.high.now c.in-Some.low.now c.slice.result c.in-Some.ensures c.slice.ensures

pub returns-in-None : goal.returns-in-None
returns-in-None c = selects_bit (types_of c.args.self.now) (inputs_of c.args.self.now) c.args.net.now c.args.indices.now c.bit.result c.in-None.ensures c.bit.ensures
