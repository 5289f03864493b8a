-- How a step comes to the instances, by their numbers: each has the entry by which it is met first.
use Rattle.std.specs.Prelude.{ℕ, ◌+◌, List, [], ◌∷◌, Some, slice_index_or, slice_set}
use Rattle.qz_values.specs.Values.{no, default_of}
use Rattle.qz_syntax.specs.declared.declarations.Class.TheVariants.{Event}
use Rattle.qz_syntax.specs.declared.modules.Module.{Module}
use Rattle.qz_syntax.specs.declared.places.Store.{Store}
use Rattle.qz_meaning.specs.Instances.{Instance}
use Rattle.qz_meaning.specs.Programs.{class_in, type_in}
use Rattle.qz_react.specs.declared.environments.Met.{Met}
use Rattle.qz_interp.specs.declared.slots.Entry.{Entry}
use Rattle.qz_interp.specs.declared.slots.Entry.TheVariants.{Unmet, New, Kept}
use Rattle.qz_interp.specs.declared.slots.Slot.{Slot}
use Rattle.qz_interp.specs.RoundTables.{entry_with}

-- the slot of an instance to which no step has come
abbrev pub blank_slot : Module → Instance → Slot
blank_slot m i = record { class = class_in m i.variable; default = default_of (type_in m i.variable); entry = Unmet }

-- what stands where there is no slot
abbrev pub no_slot : Slot
no_slot = record { class = Event; default = no; entry = Unmet }

-- of two entries the first counts
abbrev pub first_entry : Entry → Entry → Entry
first_entry Unmet second = second
first_entry New second = New
first_entry (Kept store) second = Kept store

-- the slot of an instance to which the step comes so
abbrev pub with_entry : Slot → Entry → Slot
with_entry slot entry = record { class = slot.class; default = slot.default; entry = first_entry slot.entry entry }

-- the slots once one instance more is met; a number that no instance has changes nothing
abbrev pub with_met : List Slot → Met → List Slot
with_met slots one = slice_set slots one.instance (with_entry (slice_index_or slots one.instance no_slot) (entry_with one.store))

-- the slots once these are met
abbrev pub entered : List Slot → List Met → List Slot
entered slots [] = slots
entered slots (one ∷ met) = entered (with_met slots one) met

-- the outputs from this number on, each with its store
abbrev pub outputs_met : ℕ → List Store → List Met
outputs_met number [] = []
outputs_met number (store ∷ stores) = record { instance = number; store = Some store } ∷ outputs_met (number + 1) stores
