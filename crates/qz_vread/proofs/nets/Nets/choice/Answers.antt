use Rattle.qz_vread.specs.RightSides.{types_of, inputs_of}
use Rattle.qz_vread.proofs.Forming.{choice_no_colon, choice_no_yes, choice_no_no, choice_made}
use Rattle.qz_vread.proofs.nets.Nets.choice.Goals as goal

pub returns-in_err-no : goal.returns-in_err-no
returns-in_err-no c = rw c.from_residual-in_err-no.ensures (choice_no_colon (types_of c.args.self.now) (inputs_of c.args.self.now) c.args.condition.now c.args.sides.now c.in_ok-yes.yes.now c.in_ok-yes.rest.now c.in_ok-yes.ensures c.in_err-no.ensures)

pub returns-in_err-net-2 : goal.returns-in_err-net-2
returns-in_err-net-2 c = rw c.from_residual-in_err-net-2.ensures (choice_no_yes (types_of c.args.self.now) (inputs_of c.args.self.now) c.args.condition.now c.args.sides.now c.in_ok-yes.yes.now c.in_ok-yes.rest.now c.in_ok-yes.ensures c.in_err-net-2.ensures)

pub returns-in_err-net-3 : goal.returns-in_err-net-3
returns-in_err-net-3 c =
    rw c.from_residual-in_err-net-3.ensures (choice_no_no (types_of c.args.self.now) (inputs_of c.args.self.now) c.args.condition.now c.args.sides.now c.in_ok-yes.yes.now c.in_ok-yes.rest.now c.in_ok-no.no.now c.in_ok-yes.ensures c.in_ok-no.ensures c.in_err-net-3.ensures)

pub returns : goal.returns
returns c =
    choice_made (types_of c.args.self.now) (inputs_of c.args.self.now) c.args.condition.now c.args.sides.now c.in_ok-yes.yes.now c.in_ok-yes.rest.now c.in_ok-no.no.now
    c.in_ok-net.field-0 c.in_ok-net-2.field-0 c.in_ok-net-3.field-0 c.in_ok-yes.ensures c.in_ok-no.ensures c.in_ok-net.ensures c.in_ok-net-2.ensures c.in_ok-net-3.ensures
