use Rattle.qz_vread.specs.RightSides.{types_of, inputs_of}
use Rattle.qz_vread.proofs.Forming.{bit_made}
use Rattle.qz_vread.proofs.nets.Nets.bit.Goals as goal

pub returns : goal.returns
returns c =
    bit_made (types_of c.args.self.now) (inputs_of c.args.self.now) c.args.net.now c.args.index.now c.in_ok-strip_end.field-0.now c.in_ok-net.field-0 c.in_ok-number.number
    c.in_ok-strip_end.ensures c.in_ok-number.ensures c.in_ok-net.ensures
