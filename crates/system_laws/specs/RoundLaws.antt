-- The laws of the rounds of a system at a valuation: there is one with each number, they rise, and they end.
use Rattle.std.specs.Prelude.{ℕ, suc, ◌≡◌, ◌*◌, ◌≤◌, List, length}
use Rattle.qz_values.specs.declared.Know.{Know}
use Rattle.qz_syntax.specs.declared.places.Later.{Later}
use Rattle.qz_system.specs.declared.parts.SystemParts.{SystemParts}
use Rattle.qz_system.specs.declared.valuation.Valuation.{Valuation}
use Rattle.qz_system.specs.Parts.{AreParts}
use Rattle.qz_system.specs.Valuations.{Fits}
use Rattle.qz_system.specs.Rounds.{HaveTypes, IsRound}
use Rattle.qz_system.specs.Nexts.{IsNthRound, IsLastRound}
use Rattle.system_laws.specs.Instances.{AgreeAt, BelowAt}

-- a round with this number, of which as much is said as there are instances, each of its type
pub record HasRound (parts : SystemParts) (v : Valuation) (number : ℕ) : Type 0 where
  pub knows : List Know
  pub delayed : List Later
  pub is_nth : IsNthRound parts v number knows delayed
  pub typed : HaveTypes parts knows
  pub count : length knows ≡ length parts.instances
  pub count_later : length delayed ≡ length parts.instances

-- there is a round with each number
abbrev pub RoundsExist : Type 0
RoundsExist = (parts : SystemParts) → AreParts parts → (v : Valuation) → Fits parts v → (number : ℕ) → HasRound parts v number

-- and it is one
abbrev pub RoundsAreOne : Type 0
RoundsAreOne = (parts : SystemParts) → AreParts parts → (v : Valuation) (number : ℕ) (knows others : List Know) (delayed later_others : List Later)
    → IsNthRound parts v number knows delayed → IsNthRound parts v number others later_others → AgreeAt parts knows others delayed later_others

-- knowledge never falls from round to round
abbrev pub RoundsRise : Type 0
RoundsRise = (parts : SystemParts) → AreParts parts → (v : Valuation) (number : ℕ) (knows others : List Know) (delayed later_others : List Later)
    → IsNthRound parts v number knows delayed → IsNthRound parts v (suc number) others later_others → BelowAt parts knows others delayed later_others

-- a round after which nothing changes, of a number within a bound
pub record EndsWithin (parts : SystemParts) (v : Valuation) (most : ℕ) : Type 0 where
  pub number : ℕ
  pub within : number ≤ most
  pub knows : List Know
  pub delayed : List Later
  pub is_nth : IsNthRound parts v number knows delayed
  pub stays : IsRound parts v knows knows delayed

-- each value and each delayed value changes twice at most, so nothing changes after four times as many rounds as
-- there are instances
abbrev pub RoundsEnd : Type 0
RoundsEnd = (parts : SystemParts) → AreParts parts → (v : Valuation) → Fits parts v → EndsWithin parts v (4 * length parts.instances)

-- every round after the last one is the same
abbrev pub RoundsStay : Type 0
RoundsStay = (parts : SystemParts) (v : Valuation) (number : ℕ) (knows : List Know) (delayed : List Later)
    → IsNthRound parts v number knows delayed → IsRound parts v knows knows delayed
    → (later : ℕ) → number ≤ later → IsNthRound parts v later knows delayed

-- what the rounds come to is one
abbrev pub LastsAreOne : Type 0
LastsAreOne = (parts : SystemParts) → AreParts parts → (v : Valuation) (knows others : List Know) (delayed later_others : List Later)
    → IsLastRound parts v knows delayed → IsLastRound parts v others later_others → AgreeAt parts knows others delayed later_others
