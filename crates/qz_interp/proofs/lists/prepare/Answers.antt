use Rattle.std.proofs.Common.{◌≡◌, ◌*◌, List, length, refl, sym, ap, ap₂, subst, ◌∙◌}
use Rattle.qz_react.specs.declared.environments.Met.{Met}
use Rattle.qz_interp.specs.declared.slots.Slot.{Slot}
use Rattle.qz_interp.specs.Entering.{no_slot, entered}
use Rattle.qz_interp.specs.Touching.{OnlyThere}
use Rattle.qz_interp.proofs.EnteringLemmas.{prepared}
use Rattle.qz_interp.proofs.RestLemmas.{touched, only_entered}
use Rattle.qz_interp.proofs.TouchLemmas.{only_nothing}
use Rattle.qz_interp.proofs.lists.prepare.Goals as goal

-- where what is met is entered, only that is touched
only_met : (met : List Met) (slots now : List Slot) (listed : List Met) → now ≡ entered slots listed → listed ≡ met → OnlyThere no_slot met slots now
only_met met slots now listed is same = subst (OnlyThere no_slot met slots) (sym (is ∙ ap (entered slots) same)) (only_entered slots met)

pub returns-in_err-list_met-clause-touched : goal.returns-in_err-list_met-clause-touched
returns-in_err-list_met-clause-touched c =
    let old = c.args.lists.now in
    touched c.args.w.now.module old record { blank = old.blank; slots = old.slots; met = c.list_met.new.met; env = old.env; sheet = old.sheet; stores = old.stores }
    c.requires.rest refl (only_nothing no_slot c.list_met.new.met.items old.slots.items) refl refl refl

pub returns-in_err-take_inputs-clause-touched : goal.returns-in_err-take_inputs-clause-touched
returns-in_err-take_inputs-clause-touched c =
    let old = c.args.lists.now in
    touched c.args.w.now.module old
    record { blank = old.blank; slots = c.enter.new.slots; met = c.list_met.new.met; env = c.take_inputs.new.env; sheet = old.sheet; stores = old.stores }
    c.requires.rest refl (only_met c.list_met.new.met.items old.slots.items c.enter.new.slots.items c.deref.result.now c.enter.ensures c.deref.ensures.value)
    (ap (λ v. v.items) c.take_inputs.ensures.now) (ap (λ v. v.items) c.take_inputs.ensures.later) refl

pub returns-in_err-most-clause-touched : goal.returns-in_err-most-clause-touched
returns-in_err-most-clause-touched c =
    let old = c.args.lists.now in
    touched c.args.w.now.module old
    record { blank = old.blank; slots = c.enter.new.slots; met = c.list_met.new.met; env = c.take_inputs.new.env; sheet = old.sheet; stores = old.stores }
    c.requires.rest refl (only_met c.list_met.new.met.items old.slots.items c.enter.new.slots.items c.deref.result.now c.enter.ensures c.deref.ensures.value)
    (ap (λ v. v.items) c.in_ok-take_inputs.ensures.now) (ap (λ v. v.items) c.in_ok-take_inputs.ensures.later) refl

pub returns-clause-touched : goal.returns-clause-touched
returns-clause-touched c =
    let old = c.args.lists.now in
    touched c.args.w.now.module old
    record { blank = old.blank; slots = c.enter.new.slots; met = c.list_met.new.met; env = c.take_inputs.new.env; sheet = old.sheet; stores = old.stores }
    c.requires.rest refl (only_met c.list_met.new.met.items old.slots.items c.enter.new.slots.items c.deref.result.now c.enter.ensures c.deref.ensures.value)
    (ap (λ v. v.items) c.in_ok-take_inputs.ensures.now) (ap (λ v. v.items) c.in_ok-take_inputs.ensures.later) refl

pub returns-clause-prepared : goal.returns-clause-prepared
returns-clause-prepared c = λ numbered long.
    let old = c.args.lists.now in
    let rest = c.requires.rest in
    prepared c.args.w.now.module numbered (record { place = c.args.place.now; outputs = c.args.outputs.now }) c.args.inputs.now
    c.list_met.new.met.items c.enter.new.slots.items c.take_inputs.new.env c.in_ok-most.most (length old.blank.items)
    (c.enter.ensures ∙ ap₂ entered (rest.slots ∙ rest.blank) c.deref.ensures.value)
    (c.in_ok-list_met.ensures long) c.in_ok-take_inputs.ensures.inputs (ap length rest.blank)
    (ap (λ v. v.items) c.in_ok-take_inputs.ensures.now ∙ rest.now) (ap (λ v. v.items) c.in_ok-take_inputs.ensures.later ∙ rest.later)
    (c.in_ok-most.ensures ∙ ap (λ n. 4 * n) (c.len.ensures ∙ sym c.deref.ensures.len ∙ ap length c.deref.ensures.value))
