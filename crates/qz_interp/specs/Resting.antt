-- What the lists of a program's steps are between steps and in one.
use Rattle.std.specs.Prelude.{◌≡◌, length, map, replicate}
use Rattle.qz_values.specs.declared.Know.TheVariants as know
use Rattle.qz_syntax.specs.declared.modules.Module.{Module}
use Rattle.qz_syntax.specs.declared.places.Later.TheVariants as later
use Rattle.qz_meaning.specs.Programs.{instances_of}
use Rattle.qz_interp.specs.declared.lists.Lists.{Lists}
use Rattle.qz_interp.specs.Entering.{blank_slot, no_slot}
use Rattle.qz_interp.specs.Touching.{OnlyThere, Suits, IsClear}

-- between steps: nothing is met, nothing is known, and nothing is written
pub record AreAtRest (m : Module) (lists : Lists) : Type 0 where
  pub blank : lists.blank.items ≡ map (blank_slot m) (instances_of m)
  pub slots : lists.slots.items ≡ lists.blank.items
  pub now : lists.env.now.items ≡ replicate (length lists.blank.items) know.Unknown
  pub later : lists.env.later.items ≡ replicate (length lists.blank.items) later.Unknown
  pub sheet : IsClear (length lists.blank.items) lists.sheet

-- in a step: as between steps, but for what is met
pub record AreTouched (m : Module) (lists : Lists) : Type 0 where
  pub blank : lists.blank.items ≡ map (blank_slot m) (instances_of m)
  pub slots : OnlyThere no_slot lists.met.items lists.blank.items lists.slots.items
  pub suits : Suits lists.slots.items lists.met.items lists.env
  pub sheet : IsClear (length lists.slots.items) lists.sheet
