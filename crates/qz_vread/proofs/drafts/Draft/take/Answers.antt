use Rattle.std.proofs.Common.{sym, subst}
use Rattle.std.specs.Prelude.{IfOk}
use Rattle.qz_vread.specs.declared.drafts.Stage.{Stage}
use Rattle.qz_vread.specs.Drafts.{IsStepAt, Takes}
use Rattle.qz_vread.proofs.drafts.Draft.take.Goals as goal

pub returns-in-Net : goal.returns-in-Net
returns-in-Net c =
    let P : Stage → Type 0 = λ s. IfOk c.take_net.result (λ taken. Takes (IsStepAt s c.args.self.now c.args.line.now) c.take_net.new.self taken) in
    subst P (sym c.in-Net.is) c.take_net.ensures
