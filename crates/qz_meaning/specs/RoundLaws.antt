-- The laws of rounds: they rise, they end, and what they come to is one environment.
use Rattle.std.specs.Prelude.{◌≡◌, ℕ, ◌*◌, ◌≤◌, suc, List, length}
use Rattle.qz_values.specs.declared.Value.{Value}
use Rattle.qz_meaning.specs.Programs.{Program}
use Rattle.qz_meaning.specs.Configurations.{Configuration}
use Rattle.qz_meaning.specs.Settling.{Environment, step_met}
use Rattle.qz_meaning.specs.Rounds.{round, IsLast, IsLeast}
use Rattle.qz_meaning.specs.Rising.{EnvironmentBelow}

-- knowledge never falls from round to round
abbrev pub RoundsRise : Type 0
RoundsRise = (p : Program) (c : Configuration) (row : List Value) (n : ℕ) → EnvironmentBelow (round p c row n) (round p c row (suc n))

-- each value and each delayed value changes twice at most, so nothing changes after four times as many
-- rounds as instances are met
abbrev pub RoundsEnd : Type 0
RoundsEnd = (p : Program) (c : Configuration) (row : List Value) → (n : ℕ) × (n ≤ 4 * length (step_met p c)) × IsLast p c row n

-- every round after the last one is the same
abbrev pub RoundsStay : Type 0
RoundsStay = (p : Program) (c : Configuration) (row : List Value) (n : ℕ)
    → IsLast p c row n → (m : ℕ) → n ≤ m → round p c row m ≡ round p c row n

-- there is exactly one least environment, and every round lies below it
pub record HasOneLeast (p : Program) (c : Configuration) (row : List Value) : Type 0 where
  pub least : Environment
  pub is_least : IsLeast p c row least
  pub only : (other : Environment) → IsLeast p c row other → other ≡ least
  pub above : (n : ℕ) → EnvironmentBelow (round p c row n) least

abbrev pub OneLeast : Type 0
OneLeast = (p : Program) (c : Configuration) (row : List Value) → HasOneLeast p c row
