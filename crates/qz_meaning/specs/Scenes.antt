-- What a walk goes by: what is fixed in it, and what changes on the way down a tree.
use Rattle.std.specs.Prelude.{ℕ, true, false, List, if◌then◌else◌}
use Rattle.qz_values.specs.declared.Ty.{Ty}
use Rattle.qz_values.specs.declared.Know.{Know}
use Rattle.qz_values.specs.declared.Know.TheVariants.{Known}
use Rattle.qz_values.specs.Values.{no, default_of}
use Rattle.qz_syntax.specs.declared.declarations.Class.{Class}
use Rattle.qz_syntax.specs.declared.declarations.Class.TheVariants.{Event, Mem}
use Rattle.qz_syntax.specs.declared.expressions.Var.{Var}
use Rattle.qz_syntax.specs.declared.expressions.Var.TheVariants as var
use Rattle.qz_syntax.specs.declared.places.Mark.{Mark}
use Rattle.qz_syntax.specs.declared.places.Mark.TheVariants as mark
use Rattle.qz_syntax.specs.declared.places.Later.{Later}
use Rattle.qz_syntax.specs.declared.places.Later.TheVariants as later
use Rattle.qz_syntax.specs.declared.places.Store.{Store}
use Rattle.qz_syntax.specs.Numbers.{contains}
use Rattle.qz_meaning.specs.Instances.{Instance}

-- what a walk reads: what is known of each instance
abbrev pub Scene : Type 0
Scene = Instance → Know

-- what the stores after a step come from: the variables, and what is known of their instances and of the
-- values delayed to the next step
pub record Passing : Type 0 where
  pub class_of : Var → Class
  pub type_of : Var → Ty
  pub now : Instance → Know
  pub later : Instance → Later

-- what changes on the way down: the mark of the instance that a local has here, and what is known here
-- of the arguments that are bound round this place
pub record Context : Type 0 where
  pub marks : ℕ → Mark
  pub bound : ℕ → Know

-- At the root no local exists and nothing is bound. What isn't bound is known, so that nothing is open in a
-- context where each local is known.
abbrev pub root : Context
root = record { marks = λ n. mark.Zero; bound = λ n. Known no }

-- below a scope, whose locals have instances with this mark
abbrev pub with_locals : Context → List ℕ → Mark → Context
with_locals ctx locals m = record {
  marks = λ n. if contains locals n then m else ctx.marks n;
  bound = ctx.bound;
}

-- the instance that a variable has here
abbrev pub instance_here : Context → Var → Instance
instance_here ctx (var.Formal n) = record { variable = var.Formal n; mark = mark.Zero }
instance_here ctx (var.Local n) = record { variable = var.Local n; mark = ctx.marks n }
instance_here ctx (var.Bound n) = record { variable = var.Bound n; mark = mark.Zero }

-- the default without mark
abbrev pub default_store : Ty → Store
default_store t = record { value = default_of t; pending = false }

-- the store without mark: the step's value where it is kept and known, else the default
abbrev pub unmarked_store : Class → Ty → Know → Store
unmarked_store Event t k = default_store t
unmarked_store Mem t (Known v) = record { value = v; pending = false }
unmarked_store Mem t k = default_store t

-- the store that comes from an instance: the delayed value with a mark if there is one
abbrev pub store_of : Class → Ty → Know → Later → Store
store_of class t now (later.Known v) = record { value = v; pending = true }
store_of class t now later.Unknown = unmarked_store class t now
store_of class t now later.Absent = unmarked_store class t now
store_of class t now later.Clash = unmarked_store class t now

-- the store that comes from an instance, under the values of the step
abbrev pub store_from : Passing → Instance → Store
store_from step i = store_of (step.class_of i.variable) (step.type_of i.variable) (step.now i) (step.later i)
