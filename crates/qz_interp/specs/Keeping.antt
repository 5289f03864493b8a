-- What the outputs give and keep after a step, by their numbers, and what they keep at first.
use Rattle.std.specs.Prelude.{ℕ, true, false, List, [], ◌∷◌, map, slice_index_or, if◌then◌else◌}
use Rattle.std.specs.List.{range_with_len}
use Rattle.qz_values.specs.declared.Ty.{Ty}
use Rattle.qz_values.specs.declared.Value.{Value}
use Rattle.qz_values.specs.declared.Know.{Know}
use Rattle.qz_values.specs.declared.Know.TheVariants as know
use Rattle.qz_values.specs.Values.{no}
use Rattle.qz_syntax.specs.declared.declarations.Class.{Class}
use Rattle.qz_syntax.specs.declared.declarations.Class.TheVariants.{Event, Mem}
use Rattle.qz_syntax.specs.declared.declarations.Dir.TheVariants as dir
use Rattle.qz_syntax.specs.declared.declarations.Formal.{Formal}
use Rattle.qz_syntax.specs.declared.places.Later.{Later}
use Rattle.qz_syntax.specs.declared.places.Later.TheVariants as later
use Rattle.qz_syntax.specs.declared.places.Store.{Store}
use Rattle.qz_meaning.specs.Programs.{is_same_direction}
use Rattle.qz_interp.specs.declared.slots.Slot.{Slot}
use Rattle.qz_interp.specs.Slots.{new_by}
use Rattle.qz_interp.specs.Entering.{no_slot}

-- the types of the outputs among some formals
abbrev pub output_types : List Formal → List Ty
output_types [] = []
output_types (formal ∷ formals) = if is_same_direction formal.dir dir.Out then formal.ty ∷ output_types formals else output_types formals

-- the value that is known
abbrev pub value_of_known : Know → Value
value_of_known know.Unknown = no
value_of_known (know.Known v) = v
value_of_known know.Clash = no

-- what is kept without a mark, of a variable with this default
abbrev pub unmarked_by : Class → Value → Know → Store
unmarked_by Event default now = new_by default
unmarked_by Mem default know.Unknown = new_by default
unmarked_by Mem default (know.Known v) = record { value = v; pending = false }
unmarked_by Mem default know.Clash = new_by default

-- what is kept: the delayed value with a mark if there is one
abbrev pub kept_by : Class → Value → Know → Later → Store
kept_by class default now later.Unknown = unmarked_by class default now
kept_by class default now later.Absent = unmarked_by class default now
kept_by class default now (later.Known v) = record { value = v; pending = true }
kept_by class default now later.Clash = unmarked_by class default now

-- what the instance with this number keeps
abbrev pub kept_at : List Slot → List Know → List Later → ℕ → Store
kept_at slots known delayed number =
    kept_by (slice_index_or slots number no_slot).class (slice_index_or slots number no_slot).default
    (slice_index_or known number know.Unknown) (slice_index_or delayed number later.Unknown)

-- what so many outputs keep
abbrev pub outputs_kept : List Slot → List Know → List Later → ℕ → List Store
outputs_kept slots known delayed count = map (kept_at slots known delayed) (range_with_len 0 count)
