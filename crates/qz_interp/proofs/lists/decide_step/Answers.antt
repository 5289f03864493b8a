use Rattle.std.proofs.Common.{List, sym, subst, ◌∙◌}
use Rattle.qz_meaning.specs.Configurations.{Configuration}
use Rattle.qz_interp.specs.declared.slots.Slot.{Slot}
use Rattle.qz_interp.specs.Beginning.{BeginsRounds}
use Rattle.qz_interp.proofs.lists.decide_step.Goals as goal

pub returns-clause-decided : goal.returns-clause-decided
returns-clause-decided c = λ numbered valuation.
    let at : Configuration = record { place = c.args.place.now; outputs = c.args.outputs.now } in
    let p = c.in_ok-most.ensures.prepared numbered valuation.configuration.outputs in
    let begins = subst (λ (slots : List Slot). BeginsRounds c.args.w.now.module at c.args.inputs.now c.args.place.now slots c.prepare.new.lists.env)
    (sym c.deref.ensures.value) p.begins in
    record {
      inputs = c.in_ok-answer.ensures.inputs ∙ p.begins.inputs;
      last = c.in_ok-answer.ensures.last at c.args.inputs.now begins p.enough;
      decides = c.in_ok-answer.ensures.decided at c.args.inputs.now begins p.enough valuation;
    }
