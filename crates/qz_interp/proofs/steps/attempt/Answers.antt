use Rattle.std.proofs.Common.{rules, ◌≡◌, List, length, Some, None, sym, ap, subst, ◌∙◌}
use Rattle.qz_syntax.specs.declared.places.Store.{Store}
use Rattle.qz_meaning.specs.Programs.{program_of}
use Rattle.qz_meaning.specs.Configurations.{Configuration, IsValuationOf}
use Rattle.qz_interp.specs.declared.slots.Slot.{Slot}
use Rattle.qz_interp.specs.Keeping.{outputs_kept}
use Rattle.qz_interp.specs.OnlySteps.{IsDecided}
use Rattle.qz_interp.proofs.StepLemmas.{refusal, only_step}
use Rattle.qz_interp.proofs.steps.attempt.Goals as goal

pub returns-in-Ok-Some-clause-refused : goal.returns-in-Ok-Some-clause-refused
returns-in-Ok-Some-clause-refused c = λ fits.
    let is : c.in-Ok-Some.field-0 ≡ Some c.in-Ok-Some.doubted = search rules in
    let m = c.args.w.now.module in
    let env = c.decide_step.new.lists.env in
    let at : List Store → Configuration = λ stores. record { place = c.args.state.now.place; outputs = stores } in
    let valuation = subst (λ (stores : List Store). IsValuationOf (program_of m) (at stores) c.args.inputs.now) (sym c.deref.ensures.value) fits.valuation in
    let decided = subst (λ (stores : List Store). IsDecided m (at stores) c.args.inputs.now env (Some c.in-Ok-Some.doubted)) c.deref.ensures.value
    (subst (IsDecided m (at c.deref.result.now) c.args.inputs.now env) is (c.in-Ok-Some.ensures.decided fits.well_formed.numbered valuation)) in
    refusal m (at c.args.state.now.outputs.items) c.args.inputs.now env c.in-Ok-Some.doubted c.not_definite.result decided c.not_definite.ensures

pub returns-in-Ok-clause-steps : goal.returns-in-Ok-clause-steps
returns-in-Ok-clause-steps c = λ fits.
    let is : c.in-Ok-None.field-0 ≡ None = search rules in
    let m = c.args.w.now.module in
    let env = c.decide_step.new.lists.env in
    let at : List Store → Configuration = λ stores. record { place = c.args.state.now.place; outputs = stores } in
    let valuation = subst (λ (stores : List Store). IsValuationOf (program_of m) (at stores) c.args.inputs.now) (sym c.deref.ensures.value) fits.valuation in
    let decided = subst (λ (stores : List Store). IsDecided m (at stores) c.args.inputs.now env None) c.deref.ensures.value
    (subst (IsDecided m (at c.deref.result.now) c.args.inputs.now env) is (c.in-Ok-None.ensures.decided fits.well_formed.numbered valuation)) in
    only_step m (at c.args.state.now.outputs.items) c.args.inputs.now (length c.args.values.now) fits env decided
    c.take_definite.new.state.place c.take_definite.new.state.outputs.items c.take_definite.new.values c.in-Ok.ensures.place
    (c.in-Ok.ensures.outputs
    ∙ ap (λ (slots : List Slot). outputs_kept slots env.now.items env.later.items (length c.args.state.now.outputs.items))
    c.in-Ok-None.ensures.touched.blank)
    c.in-Ok.ensures.values
