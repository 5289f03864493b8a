-- What the instances of a step settle to, by their numbers.
use Rattle.std.specs.Prelude.{◌≡◌, ℕ, ◌+◌, false, List, [], ◌∷◌, slice_index_or}
use Rattle.qz_values.specs.declared.Ty.{Ty}
use Rattle.qz_values.specs.declared.Value.{Value}
use Rattle.qz_values.specs.declared.Know.{Know}
use Rattle.qz_values.specs.declared.Know.TheVariants as know
use Rattle.qz_values.specs.Values.{default_of}
use Rattle.qz_syntax.specs.declared.declarations.Class.{Class}
use Rattle.qz_syntax.specs.declared.declarations.Class.TheVariants.{Event, Mem}
use Rattle.qz_syntax.specs.declared.places.Later.{Later}
use Rattle.qz_syntax.specs.declared.places.Later.TheVariants as later
use Rattle.qz_syntax.specs.declared.places.Store.{Store}
use Rattle.qz_meaning.specs.Verdicts.{Verdict, Nobody, Open, One, Torn}
use Rattle.qz_meaning.specs.Settling.{with_pending, settled, settled_later}
use Rattle.qz_interp.specs.declared.slots.Entry.{Entry}
use Rattle.qz_interp.specs.declared.slots.Entry.TheVariants.{Unmet, New, Kept}
use Rattle.qz_interp.specs.declared.slots.Slot.{Slot}

-- without a writer: an event's default, or what is kept
abbrev pub unwritten_by : Class → Value → Store → Value
unwritten_by Event default store = default
unwritten_by Mem default store = store.value

-- what a variable with this default settles to
abbrev pub settled_by : Class → Value → Store → Verdict → Know
settled_by class default store Nobody = know.Known (unwritten_by class default store)
settled_by class default store Open = know.Unknown
settled_by class default store (One v) = know.Known v
settled_by class default store Torn = know.Clash

-- that is what it settles to by the definition, where the default is that of its type
abbrev pub SettlesAsDefined : Type 0
SettlesAsDefined = (class : Class) (t : Ty) (store : Store) (v : Verdict) → settled_by class (default_of t) store v ≡ settled class t store v

-- a new store: the default without mark
abbrev pub new_by : Value → Store
new_by default = record { value = default; pending = false }

-- an instance's value, by the verdict on its writers; Unknown where the step doesn't meet it
abbrev pub value_in : Class → Value → Entry → Verdict → Know
value_in class default Unmet v = know.Unknown
value_in class default New v = settled_by class default (new_by default) (with_pending (new_by default) v)
value_in class default (Kept store) v = settled_by class default store (with_pending store v)

abbrev pub value_at : Slot → Verdict → Know
value_at slot v = value_in slot.class slot.default slot.entry v

-- its delayed value
abbrev pub later_in : Entry → Verdict → Later
later_in Unmet v = later.Unknown
later_in New v = settled_later v
later_in (Kept store) v = settled_later v

abbrev pub later_at : Slot → Verdict → Later
later_at slot v = later_in slot.entry v

-- the values of the instances from this number on
abbrev pub values_from : ℕ → List Slot → List Verdict → List Know
values_from k [] verdicts = []
values_from k (slot ∷ slots) verdicts = value_at slot (slice_index_or verdicts k Nobody) ∷ values_from (k + 1) slots verdicts

-- their delayed values
abbrev pub laters_from : ℕ → List Slot → List Verdict → List Later
laters_from k [] verdicts = []
laters_from k (slot ∷ slots) verdicts = later_at slot (slice_index_or verdicts k Nobody) ∷ laters_from (k + 1) slots verdicts
