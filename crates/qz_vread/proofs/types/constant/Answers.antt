use Rattle.qz_vread.proofs.Constants.{no_constant, constant_read}
use Rattle.qz_vread.proofs.types.constant.Goals as goal

pub returns-in_err-number : goal.returns-in_err-number
returns-in_err-number c =
    rw c.from_residual-in_err-number.ensures
    (no_constant c.args.ty c.args.bytes.now c.in_ok-strip_mark.field-0.now c.in_ok-strip_mark.ensures c.in_err-number.ensures)

pub returns : goal.returns
returns c =
    constant_read c.args.ty c.args.bytes.now c.in_ok-strip_mark.field-0.now c.in_ok-number.field-0 c.new.result c.in_ok-strip_mark.ensures c.in_ok-number.ensures
    c.new.ensures.some c.new.ensures.value
