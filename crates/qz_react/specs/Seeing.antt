-- What a walk sees: the numbers of inputs and instances, and what is known of them.
use Rattle.std.specs.Prelude.{◌≡◌, ℕ, List, map, Option, Some, slice_get}
use Rattle.std.specs.Option.{option_map}
use Rattle.qz_values.specs.declared.Value.{Value}
use Rattle.qz_values.specs.declared.Know.{Know}
use Rattle.qz_values.specs.declared.Know.TheVariants.{Known}
use Rattle.qz_syntax.specs.declared.places.Later.{Later}
use Rattle.qz_meaning.specs.Instances.{Instance as OfMeaning, formal_instance}
use Rattle.qz_meaning.specs.Scenes.{Passing}
use Rattle.qz_meaning.specs.Accounts.{Write as Written}
use Rattle.qz_meaning.specs.Layouts.{Met as Passed}
use Rattle.qz_react.specs.declared.environments.Env.{Env}
use Rattle.qz_react.specs.declared.environments.Met.{Met}
use Rattle.qz_react.specs.declared.environments.Write.{Write}
use Rattle.qz_react.specs.declared.instances.Instance.{Instance}
use Rattle.qz_react.specs.declared.instances.Instances.{Instances}

-- an instance, as the definitions of meaning see it
abbrev pub instance_of : Instance → OfMeaning
instance_of i = record { variable = i.variable; mark = i.mark }

-- the instances in the order of their numbers
abbrev pub named : Instances → List OfMeaning
named table = map instance_of table.all.items

-- a write by its instance, or none where no instance has the number
abbrev pub written : List OfMeaning → Write → Option Written
written instances w =
    option_map (λ i. record { target = i; delayed = w.delayed; guard = w.guard; value = w.value }) (slice_get instances w.instance)

-- an instance that is met, or none where no instance has the number
abbrev pub met_by : List OfMeaning → Met → Option Passed
met_by instances one = option_map (λ i. record { instance = i; store = one.store }) (slice_get instances one.instance)

-- what is known in a step is what the lists say by number; of an instance without a number nothing is said
pub record Sees (table : Instances) (env : Env) (step : Passing) : Type 0 where
  pub inputs : (k n : ℕ) (v : Value) → slice_get table.inputs.items k ≡ Some n → slice_get env.inputs.items k ≡ Some v
      → step.now (formal_instance n) ≡ Known v
  pub now : (k : ℕ) (i : OfMeaning) (known : Know) → slice_get (named table) k ≡ Some i → slice_get env.now.items k ≡ Some known
      → step.now i ≡ known
  pub later : (k : ℕ) (i : OfMeaning) (known : Later) → slice_get (named table) k ≡ Some i → slice_get env.later.items k ≡ Some known
      → step.later i ≡ known
