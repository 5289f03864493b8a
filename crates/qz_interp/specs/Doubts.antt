-- What isn't definite in an environment, and which of it comes first: in instance order, a value before its
-- delayed value.
use Rattle.std.specs.Prelude.{ℕ, ◌+◌, Bool, true, false, List, [], ◌∷◌, Option, Some, None, slice_index_or, if◌then◌else◌}
use Rattle.std.specs.Option.{option_map, option_or, is_some}
use Rattle.qz_values.specs.declared.Know.{Know}
use Rattle.qz_values.specs.declared.Know.TheVariants as know
use Rattle.qz_syntax.specs.declared.places.Later.{Later}
use Rattle.qz_syntax.specs.declared.places.Later.TheVariants as later
use Rattle.qz_syntax.specs.declared.refusals.Doubt.{Doubt}
use Rattle.qz_syntax.specs.declared.refusals.Doubt.TheVariants as why
use Rattle.qz_react.specs.declared.environments.Met.{Met}
use Rattle.qz_interp.specs.declared.doubts.Doubted.{Doubted}
use Rattle.qz_interp.specs.declared.slots.Entry.{Entry}
use Rattle.qz_interp.specs.declared.slots.Entry.TheVariants.{Unmet, New, Kept}
use Rattle.qz_interp.specs.declared.slots.Slot.{Slot}

-- why a value isn't definite, if it isn't
abbrev pub doubt_of : Know → Option Doubt
doubt_of know.Unknown = Some why.Unknown
doubt_of (know.Known v) = None
doubt_of know.Clash = Some why.Clash

-- why a delayed value isn't
abbrev pub doubt_of_later : Later → Option Doubt
doubt_of_later later.Unknown = Some why.Unknown
doubt_of_later later.Absent = None
doubt_of_later (later.Known v) = None
doubt_of_later later.Clash = Some why.Clash

-- the first doubt at the instance with this number, of its value and then of its delayed value
abbrev pub doubted_at : ℕ → Know → Later → Option Doubted
doubted_at number known delayed =
    option_or (option_map (λ reason. record { number = number; delayed = false; doubt = reason }) (doubt_of known))
    (option_map (λ reason. record { number = number; delayed = true; doubt = reason }) (doubt_of_later delayed))

-- an instance that the step doesn't meet counts as definite
abbrev pub doubted_in : Entry → ℕ → Know → Later → Option Doubted
doubted_in Unmet number known delayed = None
doubted_in New number known delayed = doubted_at number known delayed
doubted_in (Kept store) number known delayed = doubted_at number known delayed

-- the first doubt at the instances from this number on
abbrev pub doubted_from : ℕ → List Slot → List Know → List Later → Option Doubted
doubted_from number [] known delayed = None
doubted_from number (slot ∷ slots) known delayed =
    option_or (doubted_in slot.entry number (slice_index_or known number know.Unknown) (slice_index_or delayed number later.Unknown))
    (doubted_from (number + 1) slots known delayed)

-- nothing is in doubt at any of these
abbrev pub are_definite : List Met → List Know → List Later → Bool
are_definite [] known delayed = true
are_definite (one ∷ met) known delayed =
    if is_some (doubted_at one.instance (slice_index_or known one.instance know.Unknown) (slice_index_or delayed one.instance later.Unknown))
    then false else are_definite met known delayed
