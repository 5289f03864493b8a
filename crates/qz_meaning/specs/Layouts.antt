-- What depends on a statement and the place alone: which instances a walk meets, how control can rest,
-- which stores stand there, and what the bits of places say of it.
use Rattle.std.specs.Prelude.{ℕ, Bool, true, false, List, [], Option}
use Rattle.qz_syntax.specs.declared.places.Mark.{Mark}
use Rattle.qz_syntax.specs.declared.places.Store.{Store}
use Rattle.qz_syntax.specs.declared.places.Residual.{Residual}
use Rattle.qz_meaning.specs.Instances.{Instance}

-- an instance that a walk comes past, with the store that it begins the step with, or none where it is new
pub record Met : Type 0 where
  pub instance : Instance
  pub store : Option Store

-- one bit for each place, and one for each call, which is a place to the module that makes it
pub record PlaceBits : Type 0 where
  pub place : ℕ → Bool
  pub call : ℕ → Bool

pub record Layout : Type 0 where
  -- the instances met on starting and on resuming
  pub met_on_start : Mark → List Met
  pub met_on_resume : Residual → List Met
  -- whether control can rest so
  pub fits : Residual → Bool
  -- the stores of the locals that exist where control rests so, by the locals' numbers, inner scopes first
  pub stores_at : Residual → List (ℕ × Store)
  -- whether the bits say that control rests so, where it can, and whether they say that it rests nowhere here
  pub at : PlaceBits → Residual → Bool
  pub away : PlaceBits → Bool

-- where no control rests and nothing is met
abbrev pub bare : Layout
bare = record {
  met_on_start = λ m. [];
  met_on_resume = λ r. [];
  fits = λ r. false;
  stores_at = λ r. [];
  at = λ bits r. false;
  away = λ bits. true;
}
