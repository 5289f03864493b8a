use Rattle.std.proofs.Common.{◌≡◌, List, [], ◌∷◌, ◌++◌, length, Some, ap}
use Rattle.qz_values.specs.declared.Ty.{Ty}
use Rattle.qz_verilog.specs.declared.nets.Rhs.{Rhs}
use Rattle.qz_verilog.specs.Types.{right_side_type}
use Rattle.qz_vtext.specs.Lines.{assign_line}
use Rattle.qz_vread.specs.declared.drafts.Stage.TheVariants as stage
use Rattle.qz_vread.specs.Drafts.{types_in}
use Rattle.qz_vread.proofs.Taking.{takes_at}
use Rattle.qz_vread.proofs.drafts.Draft.take_assign.Goals as goal

pub returns : goal.returns
returns c =
    takes_at (λ (right : Rhs). right_side_type (types_in c.args.self.now) right ≡ Some c.args.ty) (assign_line c.args.self.now.ports.inputs (length c.args.self.now.wires))
    (λ (right : Rhs). record c.args.self.now { stage = stage.Net; wires = c.args.self.now.wires ++ (c.args.ty, right) ∷ [] }) c.args.line.now c.in-Some.right _ c.in-Some.ensures
    (ap (λ (ws : List (Ty × Rhs)). record c.args.self.now { stage = stage.Net; wires = ws }) c.in_ok-push.ensures.ok)
