-- The context of a walk, as it is changed in place.
use Rattle.std.specs.Prelude.{ℕ, ◌==◌, List, [], ◌∷◌, if◌then◌else◌, slice_index_or}
use Rattle.qz_values.specs.declared.Know.{Know}
use Rattle.qz_values.specs.declared.Know.TheVariants.{Known}
use Rattle.qz_values.specs.Values.{no}
use Rattle.qz_syntax.specs.declared.places.Mark.{Mark}
use Rattle.qz_syntax.specs.declared.places.Mark.TheVariants.{Zero}
use Rattle.qz_syntax.specs.declared.statements.Binding.{Binding}
use Rattle.qz_meaning.specs.Scenes.{Context}
use Rattle.qz_react.specs.declared.here.Here.{Here}

-- the context that is kept: what stands in no list is as at the root
unfoldable pub context_of : Here → Context
context_of here = record {
  marks = λ n. slice_index_or here.marks.items n Zero;
  bound = λ n. slice_index_or here.bound.items n (Known no);
}

-- one local has an instance with this mark
abbrev pub with_local : Context → ℕ → Mark → Context
with_local ctx local m = record { marks = λ n. if local == n then m else ctx.marks n; bound = ctx.bound }

-- one argument is known as this
abbrev pub with_argument : Context → ℕ → Know → Context
with_argument ctx number known = record { marks = ctx.marks; bound = λ n. if number == n then known else ctx.bound n }

-- the argument isn't bound
abbrev pub without_argument : Context → ℕ → Context
without_argument ctx number = with_argument ctx number (Known no)

-- none of these arguments is bound
abbrev pub without_arguments : Context → List Binding → Context
without_arguments ctx [] = ctx
without_arguments ctx (binding ∷ bindings) = without_arguments (without_argument ctx binding.number) bindings
