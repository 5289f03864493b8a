use Rattle.std.proofs.Common.{length, ap, ◌∙◌}
use Rattle.std.specs.Prelude.{slice_get, IfOk}
use Rattle.std.specs.Option.{option_map}
use Rattle.qz_values.specs.Values.{type_of}
use Rattle.qz_vread.specs.Drafts.{IsNextOf, Takes}
use Rattle.qz_vread.proofs.NetSteps.{some_case, none_case}
use Rattle.qz_vread.proofs.drafts.Draft.take_next.Goals as goal

pub returns-in-Some : goal.returns-in-Some
returns-in-Some c =
    some_case type_of (λ o. IfOk c.take_next_net.result (λ taken. Takes (IsNextOf o c.args.self.now c.args.line.now) c.take_next_net.new.self taken)) (slice_get c.args.self.now.registers (length c.args.self.now.nexts)) c.in-Some.ty
    (c.in-Some.ensures ∙ ap (λ k. option_map type_of (slice_get c.args.self.now.registers k)) c.len.ensures) (λ register is typed. c.take_next_net.ensures register typed)

pub returns-in-None : goal.returns-in-None
returns-in-None c =
    none_case type_of (λ o. Takes (IsNextOf o c.args.self.now c.args.line.now) c.take_fixed.new.self c.take_fixed.result) (slice_get c.args.self.now.registers (length c.args.self.now.nexts))
    (c.in-None.ensures ∙ ap (λ k. option_map type_of (slice_get c.args.self.now.registers k)) c.len.ensures) c.take_fixed.ensures
