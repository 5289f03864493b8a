-- What the next place goes by: the classes and types of variables beside what a walk sees, whether what is
-- inside goes on or stays, and the search for the first member that doesn't end.
use Rattle.std.specs.Prelude.{◌≡◌, ℕ, ◌+◌, List, Option, Some, None, if◌then◌else◌}
use Rattle.std.specs.Option.{option_map}
use Rattle.qz_values.specs.declared.Know.{Know}
use Rattle.qz_values.specs.Knowledge.{knows_yes}
use Rattle.qz_syntax.specs.declared.expressions.Var.{Var}
use Rattle.qz_syntax.specs.declared.modules.Module.{Module}
use Rattle.qz_syntax.specs.declared.places.Mark.{Mark}
use Rattle.qz_syntax.specs.declared.places.Residual.{Residual}
use Rattle.qz_syntax.specs.declared.places.Residual.TheVariants.{InSeq}
use Rattle.qz_meaning.specs.Scenes.{Passing, Context}
use Rattle.qz_meaning.specs.Accounts.{Write, Account}
use Rattle.qz_meaning.specs.Sequences.{rest_in_first}
use Rattle.qz_meaning.specs.Residing.{Walk}
use Rattle.qz_meaning.specs.Programs.{class_in, type_in}
use Rattle.qz_react.specs.declared.environments.Env.{Env}
use Rattle.qz_react.specs.declared.instances.Instances.{Instances}
use Rattle.qz_react.specs.declared.residing.Rested.{Rested}
use Rattle.qz_react.specs.declared.residing.Way.{Way}
use Rattle.qz_react.specs.declared.residing.Way.TheVariants.{Goes, Stays}
use Rattle.qz_react.specs.declared.rests.Search.{Search}
use Rattle.qz_react.specs.declared.rests.Search.TheVariants.{From, Found}
use Rattle.qz_react.specs.Seeing.{Sees}

-- a step of the module that is seen so
pub record Passes (m : Module) (table : Instances) (env : Env) (step : Passing) : Type 0 where
  pub sees : Sees table env step
  pub class_of : (x : Var) → step.class_of x ≡ class_in m x
  pub type_of : (x : Var) → step.type_of x ≡ type_in m x

-- where control rests: further on, or as it is
abbrev pub by_way : {A : Type 0} → Way → A → A → A
by_way Goes on still = on
by_way Stays on still = still

-- the way of what is inside a suspend: where the condition holds it stays
abbrev pub suspended_way : Way → Know → Way
suspended_way way condition = by_way way (if knows_yes condition then Stays else Goes) Stays

-- what is known of the search after one member more
abbrev pub seeking : Search → Rested → Search
seeking (From number) one = if knows_yes one.ends then From (number + 1) else Found (option_map (λ r. InSeq number r) one.place)
seeking (Found place) one = Found place

-- where control rests, by the search so far and the members that are left
abbrev pub sought : Account Write (Option Residual) → Context → Search → List Walk → Mark → Option Residual
sought acc ctx (From number) parts m = rest_in_first acc ctx parts number m
sought acc ctx (Found place) parts m = place

-- where control rests once no member is left
abbrev pub found_by : Search → Option Residual
found_by (From number) = None
found_by (Found place) = place

-- where control rests in a member of a parallel, or nowhere where it is done
abbrev pub branch_of : {A : Type 0} → (A → Residual → Option Residual) → A → Option Residual → Option Residual
branch_of f part None = None
branch_of f part (Some r) = f part r
