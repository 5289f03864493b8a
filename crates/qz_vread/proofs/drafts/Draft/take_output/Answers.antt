use Rattle.std.proofs.Common.{length}
use Rattle.std.specs.Prelude.{slice_get, IfOk}
use Rattle.qz_syntax.specs.declared.declarations.Port.{Port}
use Rattle.qz_vread.specs.Drafts.{IsOutputOf, Takes}
use Rattle.qz_vread.proofs.NetSteps.{some_case, none_case}
use Rattle.qz_vread.proofs.drafts.Draft.take_output.Goals as goal

pub returns-in-Some : goal.returns-in-Some
returns-in-Some c =
    some_case (λ (port : Port). port.ty) (λ o. IfOk c.take_driver.result (λ taken. Takes (IsOutputOf o c.args.self.now c.args.line.now) c.take_driver.new.self taken)) (slice_get c.args.self.now.ports.outputs (length c.args.self.now.outs)) c.in-Some.ty
    c.in-Some.ensures (λ port is typed. c.take_driver.ensures port is typed)

pub returns-in-None : goal.returns-in-None
returns-in-None c =
    none_case (λ (port : Port). port.ty) (λ o. Takes (IsOutputOf o c.args.self.now c.args.line.now) c.take_fixed.new.self c.take_fixed.result) (slice_get c.args.self.now.ports.outputs (length c.args.self.now.outs))
    c.in-None.ensures c.take_fixed.ensures
