use Rattle.std.proofs.Common.{List, [], ◌∷◌, ◌++◌, Some, None, sym, ap, subst}
use Rattle.qz_verilog.specs.declared.nets.Ref.{Ref}
use Rattle.qz_verilog.specs.Validity.{IsNetOf}
use Rattle.qz_vtext.specs.Lines.{output_line}
use Rattle.qz_vread.specs.declared.drafts.Stage.TheVariants as stage
use Rattle.qz_vread.specs.Reading.{Reads}
use Rattle.qz_vread.specs.Drafts.{types_in}
use Rattle.qz_vread.proofs.Taking.{takes_none, takes_at}
use Rattle.qz_vread.proofs.drafts.Draft.take_driver.Goals as goal

pub returns-in_default : goal.returns-in_default
returns-in_default c =
    λ port is typed.
    takes_none (IsNetOf (types_in c.args.self.now) port.ty) (output_line c.args.self.now.ports.inputs port) (λ (net : Ref). record c.args.self.now { stage = stage.Output; outs = c.args.self.now.outs ++ net ∷ [] }) c.args.line.now c.args.self.now
    (subst (λ t. Reads (IsNetOf (types_in c.args.self.now) t) (output_line c.args.self.now.ports.inputs port) c.args.line.now None) (sym typed) (c.in_default.ensures port is))

pub returns : goal.returns
returns c =
    λ port is typed.
    takes_at (IsNetOf (types_in c.args.self.now) port.ty) (output_line c.args.self.now.ports.inputs port) (λ (net : Ref). record c.args.self.now { stage = stage.Output; outs = c.args.self.now.outs ++ net ∷ [] }) c.args.line.now c.in-Some.net _
    (subst (λ t. Reads (IsNetOf (types_in c.args.self.now) t) (output_line c.args.self.now.ports.inputs port) c.args.line.now (Some c.in-Some.net)) (sym typed) (c.in-Some.ensures port is))
    (ap (λ (os : List Ref). record c.args.self.now { stage = stage.Output; outs = os }) c.in_ok-push.ensures.ok)
