-- Lists by the numbers of instances of which a step touches only the places of those that it meets.
use Rattle.std.specs.Prelude.{◌≡◌, ◌==◌, ℕ, Bool, true, false, List, [], ◌∷◌, length, replicate, slice_index_or, slice_set, if◌then◌else◌}
use Rattle.qz_values.specs.declared.Know.{Know}
use Rattle.qz_values.specs.declared.Know.TheVariants as know
use Rattle.qz_syntax.specs.declared.places.Later.{Later}
use Rattle.qz_syntax.specs.declared.places.Later.TheVariants as later
use Rattle.qz_meaning.specs.Verdicts.{Verdict, Nobody}
use Rattle.qz_react.specs.declared.environments.Env.{Env}
use Rattle.qz_react.specs.declared.environments.Met.{Met}
use Rattle.qz_interp.specs.declared.rounds.Sheet.{Sheet}
use Rattle.qz_interp.specs.declared.slots.Entry.TheVariants.{Unmet}
use Rattle.qz_interp.specs.declared.slots.Slot.{Slot}
use Rattle.qz_interp.specs.Entering.{no_slot}
use Rattle.qz_interp.specs.Slots.{value_at, later_at}

-- whether one of these is the instance with this number
abbrev pub is_among : List Met → ℕ → Bool
is_among [] number = false
is_among (one ∷ met) number = if one.instance == number then true else is_among met number

-- a list with what a function gives at the place of each of these; a place that it hasn't changes nothing
abbrev pub assigned : {A : Type 0} → (ℕ → A) → List A → List Met → List A
assigned f xs [] = xs
assigned f xs (one ∷ met) = assigned f (slice_set xs one.instance (f one.instance)) met

-- the second list is as long as the first, and differs from it only at the places of these
pub record OnlyThere {A : Type 0} (default : A) (met : List Met) (xs ys : List A) : Type 0 where
  pub count : length ys ≡ length xs
  pub elsewhere : (number : ℕ) → is_among met number ≡ false → slice_index_or ys number default ≡ slice_index_or xs number default

-- what the slot with this number settles to, by the verdicts
abbrev pub value_by : List Slot → List Verdict → ℕ → Know
value_by slots verdicts number = value_at (slice_index_or slots number no_slot) (slice_index_or verdicts number Nobody)

-- what its delayed value settles to
abbrev pub later_by : List Slot → List Verdict → ℕ → Later
later_by slots verdicts number = later_at (slice_index_or slots number no_slot) (slice_index_or verdicts number Nobody)

-- only these are met, and only of these anything is known
pub record Suits (slots : List Slot) (met : List Met) (env : Env) : Type 0 where
  pub unmet : (number : ℕ) → is_among met number ≡ false → (slice_index_or slots number no_slot).entry ≡ Unmet
  pub now : OnlyThere know.Unknown met (replicate (length slots) know.Unknown) env.now.items
  pub later : OnlyThere later.Unknown met (replicate (length slots) later.Unknown) env.later.items

-- no writer stands on the sheet, of so many instances
pub record IsClear (count : ℕ) (sheet : Sheet) : Type 0 where
  pub now : sheet.now ≡ replicate count Nobody
  pub later : sheet.later ≡ replicate count Nobody
