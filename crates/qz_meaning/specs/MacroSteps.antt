-- Macro steps. A step's values are a solution, which knows nothing of rounds: a plain environment that
-- settles to itself under the walk.
use Rattle.std.specs.Prelude.{◌≡◌, List, map, Option, Some, None}
use Rattle.std.specs.List.{AllByRecursion}
use Rattle.qz_values.specs.declared.Value.{Value}
use Rattle.qz_values.specs.declared.Know.TheVariants.{Known}
use Rattle.qz_syntax.specs.declared.places.Mark.TheVariants as mark
use Rattle.qz_syntax.specs.declared.places.Residual.{Residual}
use Rattle.qz_syntax.specs.declared.places.Place.{Place}
use Rattle.qz_syntax.specs.declared.places.Place.TheVariants as place
use Rattle.qz_meaning.specs.Instances.{formal_instance}
use Rattle.qz_meaning.specs.Scenes.{root, store_from}
use Rattle.qz_meaning.specs.Accounts.{Write}
use Rattle.qz_meaning.specs.Layouts.{Met}
use Rattle.qz_meaning.specs.Programs.{Program}
use Rattle.qz_meaning.specs.Residing.{Walk}
use Rattle.qz_meaning.specs.Configurations.{Configuration, IsValuationOf}
use Rattle.qz_meaning.specs.Settling.{Environment, passing, body_under, step_writes, step_met, settles_now, settles_later}
use Rattle.qz_meaning.specs.Rounds.{AgreeWhereMet, IsPlain}

-- what an instance has in an environment is what it settles to
pub record IsSettledAt (p : Program) (writes : List Write) (env : Environment) (one : Met) : Type 0 where
  pub now : env.now one.instance ≡ settles_now p writes one
  pub later : env.later one.instance ≡ settles_later writes one

-- the values of the row, in the order of the inputs
abbrev pub HasInputs : Program → Environment → List Value → Type 0
HasInputs p env row = map (λ n. env.now (formal_instance n)) p.inputs ≡ map (λ v. Known v) row

-- a solution of a configuration with a row of inputs
pub record IsSolution (p : Program) (c : Configuration) (row : List Value) (env : Environment) : Type 0 where
  pub valuation : IsValuationOf p c row
  pub inputs : HasInputs p env row
  pub plain : IsPlain p c env
  pub settled : AllByRecursion (IsSettledAt p (step_writes p c env) env) (step_met p c)

-- all solutions agree wherever instances are met, so there is at most one macro step
abbrev pub HaveOneSolution : Program → Configuration → List Value → Type 0
HaveOneSolution p c row = (a b : Environment) → IsSolution p c row a → IsSolution p c row b → AgreeWhereMet p c a b

-- a place where control rests, or the end where there is none
abbrev pub rest_or_end : Option Residual → Place
rest_or_end (Some r) = place.Rest r
rest_or_end None = place.Ended

-- where control is after the step
abbrev pub next_place : Walk → Place → Place
next_place body place.NotStarted = rest_or_end (body.rest root mark.Zero)
next_place body (place.Rest r) = rest_or_end (body.after root r)
next_place body place.Ended = place.Ended

-- the configuration after the step, under the step's values
abbrev pub next_configuration : Program → Configuration → Environment → Configuration
next_configuration p c env = record {
  place = next_place (body_under p env) c.place;
  outputs = map (λ n. store_from (passing p env) (formal_instance n)) p.outputs;
}

-- one macro step, which is that of a solution: the outputs that it has, and the configuration after it
pub record IsStep (p : Program) (c : Configuration) (row outputs : List Value) (next : Configuration) : Type 0 where
  pub values : Environment
  pub solution : IsSolution p c row values
  pub outputs_are : map (λ n. values.now (formal_instance n)) p.outputs ≡ map (λ v. Known v) outputs
  pub next_is : next ≡ next_configuration p c values
