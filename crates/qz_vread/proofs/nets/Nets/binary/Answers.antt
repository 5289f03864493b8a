use Rattle.qz_vread.specs.RightSides.{types_of, inputs_of}
use Rattle.qz_vread.proofs.Forming.{binary_no_sign, binary_no_second, binary_made}
use Rattle.qz_vread.proofs.nets.Nets.binary.Goals as goal

pub returns-in_err-operator : goal.returns-in_err-operator
returns-in_err-operator c = rw c.from_residual-in_err-operator.ensures (binary_no_sign (types_of c.args.self.now) (inputs_of c.args.self.now) c.args.first.now c.args.rest.now c.in_ok-sign.sign.now c.in_ok-sign.second.now c.in_ok-sign.ensures c.in_err-operator.ensures)

pub returns-in_err-net-2 : goal.returns-in_err-net-2
returns-in_err-net-2 c = rw c.from_residual-in_err-net-2.ensures (binary_no_second (types_of c.args.self.now) (inputs_of c.args.self.now) c.args.first.now c.args.rest.now c.in_ok-sign.sign.now c.in_ok-sign.second.now c.in_ok-sign.ensures c.in_err-net-2.ensures)

pub returns : goal.returns
returns c =
    binary_made (types_of c.args.self.now) (inputs_of c.args.self.now) c.args.first.now c.args.rest.now c.in_ok-sign.sign.now c.in_ok-sign.second.now
    c.in_ok-operator.field-0 c.in_ok-net.field-0 c.in_ok-net-2.field-0 c.in_ok-sign.ensures c.in_ok-operator.ensures c.in_ok-net.ensures c.in_ok-net-2.ensures
