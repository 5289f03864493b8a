-- The laws of what a walk meets and writes to: it depends on the place alone, and nothing is met twice.
use Rattle.std.specs.Prelude.{◌≡◌, ℕ, Bool, IsTrue, List, map, Some, None}
use Rattle.std.specs.List.{AllByRecursion, list_any}
use Rattle.qz_values.specs.declared.Value.{Value}
use Rattle.qz_values.specs.declared.Know.{Know}
use Rattle.qz_syntax.specs.declared.expressions.Var.TheVariants as var
use Rattle.qz_syntax.specs.declared.statements.Stmt.{Stmt}
use Rattle.qz_syntax.specs.declared.modules.Module.{Module}
use Rattle.qz_syntax.specs.declared.places.Mark.{Mark}
use Rattle.qz_syntax.specs.declared.places.Store.{Store}
use Rattle.qz_syntax.specs.declared.places.Residual.{Residual}
use Rattle.qz_syntax.specs.WellFormed.{IsNumbered}
use Rattle.qz_meaning.specs.Instances.{Instance, is_same_instance}
use Rattle.qz_meaning.specs.Scenes.{Passing, Context, store_from}
use Rattle.qz_meaning.specs.Accounts.{Write}
use Rattle.qz_meaning.specs.Layouts.{Met}
use Rattle.qz_meaning.specs.Residing.{walk}
use Rattle.qz_meaning.specs.Programs.{Program, HasOwnNumbers, program_of}
use Rattle.qz_meaning.specs.Configurations.{Configuration, IsConfiguration}
use Rattle.qz_meaning.specs.Settling.{Environment, passing, step_met, given, met_as}
use Rattle.qz_meaning.specs.MacroSteps.{next_configuration}
use Rattle.qz_meaning.specs.Valuations.{stores_at_place, store_among}

-- what is written to, in the order of the writes: an instance, and whether its value is a delayed one
abbrev pub targets : List Write → List (Instance × Bool)
targets writes = map (λ (w : Write). (w.target, w.delayed)) writes

-- whatever is known of instances, of bound arguments and of the guard, the same is written to
pub record WritesToTheSame (a b : Passing) (s : Stmt) : Type 0 where
  pub start : (c d : Context) (g h : Know) (m : Mark) → ((n : ℕ) → c.marks n ≡ d.marks n)
      → targets ((walk a s).start c g m) ≡ targets ((walk b s).start d h m)
  pub resume : (c d : Context) (r : Residual) (g h : Know) → ((n : ℕ) → c.marks n ≡ d.marks n)
      → targets ((walk a s).resume c r g) ≡ targets ((walk b s).resume d r h)

abbrev pub TargetsStand : Type 0
TargetsStand = (a b : Passing) (s : Stmt) → WritesToTheSame a b s

-- an instance that is met once, and to which the row gives no value
pub record IsMetAlone (p : Program) (c : Configuration) (row : List Value) (one : Met) : Type 0 where
  pub found : met_as one.instance (step_met p c) ≡ Some one
  pub free : given p row one.instance ≡ None

-- where each variable has a number of its own, each instance is met once and no input is met
abbrev pub InstancesAreMetOnce : Type 0
InstancesAreMetOnce = (p : Program) → HasOwnNumbers p → (c : Configuration) (row : List Value)
    → AllByRecursion (IsMetAlone p c row) (step_met p c)

-- and in a module that is numbered in tree order each variable has
abbrev pub ModulesHaveNumbers : Type 0
ModulesHaveNumbers = (m : Module) → IsNumbered m → HasOwnNumbers (program_of m)

-- whether an instance is one of those that are met
abbrev pub is_met : Instance → List Met → Bool
is_met i met = list_any (λ (one : Met). is_same_instance one.instance i) met

-- the store of a local comes from an instance of it that the step met
pub record ComesFromMet (p : Program) (c : Configuration) (env : Environment) (n : ℕ) (store : Store) : Type 0 where
  pub mark : Mark
  pub met : IsTrue (is_met (record { variable = var.Local n; mark = mark }) (step_met p c))
  pub from : store ≡ store_from (passing p env) (record { variable = var.Local n; mark = mark })

-- every scope that stands in the next place was met
abbrev pub ScopesWereMet : Type 0
ScopesWereMet = (p : Program) (c : Configuration) → IsConfiguration p c → (env : Environment) (n : ℕ) (store : Store)
    → store_among (stores_at_place p (next_configuration p c env).place) n ≡ Some store → ComesFromMet p c env n store
