use Rattle.qz_vread.specs.RightSides.{types_of, inputs_of}
use Rattle.qz_vread.proofs.Forming.{joined_unclosed, joined_no_first, joined_no_second, joined_made}
use Rattle.qz_vread.proofs.nets.Nets.joined.Goals as goal

pub returns-in_err-b : goal.returns-in_err-b
returns-in_err-b c = rw c.from_residual-in_err-b.ensures (joined_unclosed (types_of c.args.self.now) (inputs_of c.args.self.now) c.args.nets.now c.in_ok-a.a.now c.in_ok-a.rest.now c.in_ok-a.ensures c.in_err-b.ensures)

pub returns-in_err-net : goal.returns-in_err-net
returns-in_err-net c = rw c.from_residual-in_err-net.ensures (joined_no_first (types_of c.args.self.now) (inputs_of c.args.self.now) c.args.nets.now c.in_ok-a.a.now c.in_ok-a.rest.now c.in_ok-a.ensures c.in_err-net.ensures)

pub returns-in_err-net-2 : goal.returns-in_err-net-2
returns-in_err-net-2 c =
    rw c.from_residual-in_err-net-2.ensures (joined_no_second (types_of c.args.self.now) (inputs_of c.args.self.now) c.args.nets.now c.in_ok-a.a.now c.in_ok-a.rest.now c.in_ok-b.b.now c.in_ok-a.ensures c.in_ok-b.ensures c.in_err-net-2.ensures)

pub returns : goal.returns
returns c =
    joined_made (types_of c.args.self.now) (inputs_of c.args.self.now) c.args.nets.now c.in_ok-a.a.now c.in_ok-a.rest.now c.in_ok-b.b.now
    c.in_ok-net.field-0 c.in_ok-net-2.field-0 c.in_ok-a.ensures c.in_ok-b.ensures c.in_ok-net.ensures c.in_ok-net-2.ensures
