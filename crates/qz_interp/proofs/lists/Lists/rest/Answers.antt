use Rattle.std.proofs.Common.{List, refl, ap, ap₂, ◌∙◌, get_or}
use Rattle.qz_values.specs.declared.Know.TheVariants as know
use Rattle.qz_syntax.specs.declared.places.Later.TheVariants as later
use Rattle.qz_react.specs.declared.environments.Met.{Met}
use Rattle.qz_interp.specs.declared.slots.Slot.{Slot}
use Rattle.qz_interp.specs.Entering.{no_slot}
use Rattle.qz_interp.specs.Touching.{assigned}
use Rattle.qz_interp.proofs.RestLemmas.{rested}
use Rattle.qz_interp.proofs.lists.Lists.rest.Goals as goal

pub returns : goal.returns
returns c = λ m touched.
    let old = c.args.self.now in
    rested m old record {
      blank = old.blank;
      slots = c.unmeet.new.slots;
      met = old.met;
      env = record { inputs = old.env.inputs; now = c.forget_values.new.known; later = c.forget_delayed.new.delayed };
      sheet = old.sheet;
      stores = old.stores;
    }
    touched refl
    (c.unmeet.ensures
    ∙ ap₂ (λ (blank : List Slot) (met : List Met). assigned (λ k. get_or blank k no_slot) old.slots.items met) c.deref.ensures.value c.deref-2.ensures.value)
    (c.forget_values.ensures ∙ ap (assigned (λ k. know.Unknown) old.env.now.items) c.deref-3.ensures.value)
    (c.forget_delayed.ensures ∙ ap (assigned (λ k. later.Unknown) old.env.later.items) c.deref-4.ensures.value)
    refl
