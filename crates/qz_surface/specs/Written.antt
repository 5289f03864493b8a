-- The writes that were appended to a list, as a view has them.
use Rattle.std.specs.Prelude.{◌≡◌, List, [], ◌∷◌, ◌++◌, map, Some}
use Rattle.std.specs.List.{flat_map}
use Rattle.qz_values.specs.declared.Ty.{Ty}
use Rattle.qz_values.specs.declared.Know.{Know}
use Rattle.qz_nets.specs.Readings.{type_in}
use Rattle.qz_syntax.specs.declared.modules.Module.{Module}
use Rattle.qz_syntax.specs.declared.places.Mark.{Mark}
use Rattle.qz_meaning.specs.Scenes.{Context}
use Rattle.qz_meaning.specs.Accounts.{Write}
use Rattle.qz_meaning.specs.Landings.{Deed}
use Rattle.qz_control.specs.declared.circuit.Circuit.{Circuit}
use Rattle.qz_control.specs.Circuits.{View, Views, known, IsBool}
use Rattle.qz_control.specs.Typed.{declared_type}
use Rattle.qz_control.specs.Guarded.{lively}
use Rattle.qz_control.specs.Mirrors.{Walk}
use Rattle.qz_control.specs.Shown.{shown}
use Rattle.qz_surface.specs.declared.writes.NetWrite.{NetWrite}

-- a write, with what is known of its nets
abbrev pub read_write : View → NetWrite → Write
read_write v w = record {
  target = record { variable = w.target; mark = w.mark };
  delayed = w.delayed;
  guard = known v w.guard;
  value = known v w.value;
}

abbrev pub read_writes : View → List NetWrite → List Write
read_writes v writes = map (read_write v) writes

-- the writes among deeds, which happen only where this holds
abbrev pub hidden : Know → List Deed → List Write
hidden live deeds = shown (lively live deeds)

-- the deeds of members that are started all at once
abbrev pub start_at_once : Context → List Walk → Know → Mark → List Deed
start_at_once ctx parts g m = flat_map (λ (part : Walk). part.start ctx g m) parts

-- in each view of the circuit the list has these more
abbrev pub Appends : Circuit → List NetWrite → List NetWrite → (View → List Write) → Type 0
Appends c old new more = (v : View) → Views v c → read_writes v new ≡ read_writes v old ++ more v

-- the guard is a bool, and the value has the type that the target is declared with
pub record IsWrite (m : Module) (c : Circuit) (w : NetWrite) : Type 0 where
  pub guard : IsBool c w.guard
  pub ty : Ty
  pub declared : declared_type m w.target ≡ Some ty
  pub value : type_in c.table w.value.0 ≡ Some ty

-- each of these is so
abbrev pub AreWrites : Module → Circuit → List NetWrite → Type 0
AreWrites m c [] = Unit {0}
AreWrites m c (w ∷ others) = IsWrite m c w × AreWrites m c others
