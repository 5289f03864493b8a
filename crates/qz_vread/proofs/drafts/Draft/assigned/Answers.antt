use Rattle.std.proofs.Common.{◌≡◌, List, length, Some, subst, codes}
use Rattle.qz_syntax.specs.declared.declarations.Port.{Port}
use Rattle.qz_verilog.specs.declared.nets.Rhs.{Rhs}
use Rattle.qz_verilog.specs.Types.{NetTypes, right_side_type}
use Rattle.qz_vtext.specs.Spelling.{right_side_text}
use Rattle.qz_vread.specs.Reading.{Reads}
use Rattle.qz_vread.specs.RightSides.{inputs_of}
use Rattle.qz_vread.specs.Drafts.{types_in}
use Rattle.qz_vread.proofs.Taking.{numbered_read, numbered_none}
use Rattle.qz_vread.proofs.drafts.Draft.assigned.Goals as goal

pub returns-in_err-text : goal.returns-in_err-text
returns-in_err-text c =
    rw c.from_residual.ensures
    (numbered_none (λ (right : Rhs). right_side_type (types_in c.args.self.now) right ≡ Some c.args.ty) (right_side_text c.args.self.now.ports.inputs) (codes "  assign w_") (codes "= ") c.args.line.now
    (length c.args.self.now.wires) c.len.result c.len.ensures c.in_err-text.ensures)

pub returns : goal.returns
returns c =
    let P : NetTypes → List Port → Type 0 = λ types inputs. Reads (λ (right : Rhs). right_side_type types right ≡ Some c.args.ty) (right_side_text inputs) c.in_ok-text.text.now c.right_side.result in
    let read = subst (λ inputs. P (types_in c.args.self.now) inputs) c.nets.ensures.inputs (subst (λ types. P types (inputs_of c.nets.result)) c.nets.ensures.types c.right_side.ensures) in
    numbered_read (λ (right : Rhs). right_side_type (types_in c.args.self.now) right ≡ Some c.args.ty) (right_side_text c.args.self.now.ports.inputs) (codes "  assign w_") (codes "= ") c.args.line.now c.in_ok-text.text.now
    (length c.args.self.now.wires) c.len.result c.right_side.result c.len.ensures c.in_ok-text.ensures read
