use Rattle.std.proofs.Common.{List, length, subst, codes}
use Rattle.qz_syntax.specs.declared.declarations.Port.{Port}
use Rattle.qz_verilog.specs.Types.{NetTypes}
use Rattle.qz_verilog.specs.Validity.{IsNetOf}
use Rattle.qz_vtext.specs.Spelling.{net_text}
use Rattle.qz_vread.specs.Reading.{Reads}
use Rattle.qz_vread.specs.RightSides.{inputs_of}
use Rattle.qz_vread.specs.Drafts.{types_in}
use Rattle.qz_vread.proofs.Taking.{numbered_read}
use Rattle.qz_vread.proofs.drafts.Draft.next.Goals as goal

pub returns : goal.returns
returns c =
    let P : NetTypes → List Port → Type 0 = λ types inputs. Reads (IsNetOf types c.args.ty) (net_text inputs) c.in_ok-numbered.field-0.now c.net_of.result in
    let read = subst (λ inputs. P (types_in c.args.self.now) inputs) c.nets.ensures.inputs (subst (λ types. P types (inputs_of c.nets.result)) c.nets.ensures.types c.net_of.ensures) in
    numbered_read (IsNetOf (types_in c.args.self.now) c.args.ty) (net_text c.args.self.now.ports.inputs) (codes "    r_") (codes "<= ") c.args.line.now c.in_ok-numbered.field-0.now
    (length c.args.self.now.nexts) c.len.result c.net_of.result c.len.ensures c.in_ok-numbered.ensures read
