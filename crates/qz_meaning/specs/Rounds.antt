-- Rounds from no knowledge up, and what they come to.
use Rattle.std.specs.Prelude.{ℕ, suc, zero, ◌≡◌, List, Option, Some, None}
use Rattle.std.specs.List.{AllByRecursion}
use Rattle.qz_values.specs.declared.Value.{Value}
use Rattle.qz_values.specs.declared.Know.{Know}
use Rattle.qz_values.specs.declared.Know.TheVariants as know
use Rattle.qz_syntax.specs.declared.places.Later.{Later}
use Rattle.qz_syntax.specs.declared.places.Later.TheVariants as later
use Rattle.qz_meaning.specs.Accounts.{Write}
use Rattle.qz_meaning.specs.Layouts.{Met}
use Rattle.qz_meaning.specs.Programs.{Program}
use Rattle.qz_meaning.specs.Configurations.{Configuration, IsValuationOf}
use Rattle.qz_meaning.specs.Settling.{Environment, step_writes, step_met, settles_now, settles_later, given, met_as}

-- an input has its value, an instance that is met settles, and every other one is unknown
abbrev pub now_or_unknown : Program → List Write → Option Value → Option Met → Know
now_or_unknown p writes (Some v) one = know.Known v
now_or_unknown p writes None (Some one) = settles_now p writes one
now_or_unknown p writes None None = know.Unknown

-- the delayed value of an instance that is met settles, and every other one is unknown
abbrev pub later_or_unknown : List Write → Option Met → Later
later_or_unknown writes (Some one) = settles_later writes one
later_or_unknown writes None = later.Unknown

-- a value that is given is known
abbrev pub given_or_unknown : Option Value → Know
given_or_unknown (Some v) = know.Known v
given_or_unknown None = know.Unknown

-- round 0: the inputs are known, and nothing else is
abbrev pub first_round : Program → List Value → Environment
first_round p row = record {
  now = λ i. given_or_unknown (given p row i);
  later = λ i. later.Unknown;
}

-- the next round settles each instance that is met from the walk under the round before
abbrev pub next_round : Program → Configuration → List Value → Environment → Environment
next_round p c row env = record {
  now = λ i. now_or_unknown p (step_writes p c env) (given p row i) (met_as i (step_met p c));
  later = λ i. later_or_unknown (step_writes p c env) (met_as i (step_met p c));
}

-- the environment after so many rounds
abbrev pub round : Program → Configuration → List Value → ℕ → Environment
round p c row zero = first_round p row
round p c row (suc n) = next_round p c row (round p c row n)

-- two environments that agree at an instance
pub record AgreeAt (one : Met) (a b : Environment) : Type 0 where
  pub now : a.now one.instance ≡ b.now one.instance
  pub later : a.later one.instance ≡ b.later one.instance

-- two environments that agree at each instance that is met
abbrev pub AgreeWhereMet : Program → Configuration → Environment → Environment → Type 0
AgreeWhereMet p c a b = AllByRecursion (λ (one : Met). AgreeAt one a b) (step_met p c)

-- nothing changes after this round at any instance that is met
abbrev pub IsLast : Program → Configuration → List Value → ℕ → Type 0
IsLast p c row n = AgreeWhereMet p c (round p c row n) (round p c row (suc n))

-- the least environment is that of a round after which nothing changes
pub record IsLeast (p : Program) (c : Configuration) (row : List Value) (env : Environment) : Type 0 where
  pub number : ℕ
  pub last : IsLast p c row number
  pub is : env ≡ round p c row number

-- some value is known
abbrev pub IsKnown : Know → Type 0
IsKnown know.Unknown = ⊥
IsKnown (know.Known v) = Unit {0}
IsKnown know.Clash = ⊥

-- some delayed value is known, or it is known that there is none
abbrev pub IsKnownOrAbsent : Later → Type 0
IsKnownOrAbsent later.Unknown = ⊥
IsKnownOrAbsent later.Absent = Unit {0}
IsKnownOrAbsent (later.Known v) = Unit {0}
IsKnownOrAbsent later.Clash = ⊥

-- the instance is known, and its delayed value is known or absent
pub record IsPlainAt (env : Environment) (one : Met) : Type 0 where
  pub now : IsKnown (env.now one.instance)
  pub later : IsKnownOrAbsent (env.later one.instance)

-- every instance that is met is plain
abbrev pub IsPlain : Program → Configuration → Environment → Type 0
IsPlain p c env = AllByRecursion (IsPlainAt env) (step_met p c)

-- a configuration with inputs is definite where its least environment is plain
pub record IsDefinite (p : Program) (c : Configuration) (row : List Value) : Type 0 where
  pub valuation : IsValuationOf p c row
  pub least : Environment
  pub is_least : IsLeast p c row least
  pub plain : IsPlain p c least
