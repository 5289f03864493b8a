use Rattle.qz_vread.specs.RightSides.{types_of, inputs_of}
use Rattle.qz_vread.proofs.Forming.{slice_made}
use Rattle.qz_vread.proofs.nets.Nets.slice.Goals as goal

pub returns : goal.returns
returns c =
    slice_made (types_of c.args.self.now) (inputs_of c.args.self.now) c.args.net.now c.args.high.now c.args.low.now c.in_ok-strip_end.field-0.now c.in_ok-net.field-0 c.in_ok-bit_number.field-0 c.in_ok-low.low
    c.in_ok-strip_end.ensures c.in_ok-low.ensures c.in_ok-net.ensures c.in_ok-bit_number.ensures
