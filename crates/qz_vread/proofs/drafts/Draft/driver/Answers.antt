use Rattle.std.proofs.Common.{List, subst}
use Rattle.qz_syntax.specs.declared.declarations.Port.{Port}
use Rattle.qz_verilog.specs.Types.{NetTypes}
use Rattle.qz_verilog.specs.Validity.{IsNetOf}
use Rattle.qz_vtext.specs.Spelling.{net_text}
use Rattle.qz_vread.specs.Reading.{Reads}
use Rattle.qz_vread.specs.RightSides.{inputs_of}
use Rattle.qz_vread.specs.Drafts.{types_in}
use Rattle.qz_vread.proofs.NetSteps.{driver_other, driver_unclosed, driver_read, not_its_name, its_name}
use Rattle.qz_vread.proofs.drafts.Draft.driver.Goals as goal

pub returns-then-not-is_output : goal.returns-then-not-is_output
returns-then-not-is_output c =
    λ port is.
    driver_other (types_in c.args.self.now) c.args.self.now.ports.inputs c.args.ty port c.args.line.now c.in_ok-strip.field-0.now c.in_ok-spelled.spelled.now c.in_ok-spelled.rest.now
    c.in_ok-strip.ensures c.in_ok-spelled.ensures
    (not_its_name c.args.self.now.ports.outputs c.in_ok-spelled.spelled.now _ _ port c.is_output.result c.len.ensures is c.is_output.ensures c.if-not-is_output.true)

pub returns-in_err-between : goal.returns-in_err-between
returns-in_err-between c =
    λ port is.
    rw c.from_residual-in_err-between.ensures
    (driver_unclosed (types_in c.args.self.now) c.args.self.now.ports.inputs c.args.ty port c.args.line.now c.in_ok-strip.field-0.now c.in_ok-spelled.spelled.now c.in_ok-spelled.rest.now
    c.in_ok-strip.ensures c.in_ok-spelled.ensures c.in_err-between.ensures)

pub returns : goal.returns
returns c =
    λ port is.
    let P : NetTypes → List Port → Type 0 = λ types inputs. Reads (IsNetOf types c.args.ty) (net_text inputs) c.in_ok-between.field-0.now c.net_of.result in
    let read = subst (λ inputs. P (types_in c.args.self.now) inputs) c.nets.ensures.inputs (subst (λ types. P types (inputs_of c.nets.result)) c.nets.ensures.types c.net_of.ensures) in
    driver_read (types_in c.args.self.now) c.args.self.now.ports.inputs c.args.ty port c.args.line.now c.in_ok-strip.field-0.now c.in_ok-spelled.spelled.now c.in_ok-spelled.rest.now
    c.in_ok-between.field-0.now c.net_of.result c.in_ok-strip.ensures c.in_ok-spelled.ensures
    (its_name c.args.self.now.ports.outputs c.in_ok-spelled.spelled.now _ _ port c.is_output.result c.len.ensures is c.is_output.ensures c.if-not-is_output.false)
    c.in_ok-between.ensures read
