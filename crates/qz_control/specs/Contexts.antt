-- The context of a walk, as it is changed in place.
use Rattle.std.specs.Prelude.{ℕ, ◌==◌, List, [], ◌∷◌, if◌then◌else◌, slice_index_or}
use Rattle.qz_values.specs.declared.Know.TheVariants.{Known}
use Rattle.qz_values.specs.Values.{no}
use Rattle.qz_syntax.specs.declared.places.Mark.{Mark}
use Rattle.qz_syntax.specs.declared.places.Mark.TheVariants.{Zero}
use Rattle.qz_meaning.specs.Scenes.{Context}
use Rattle.qz_control.specs.declared.marks.Marks.{Marks}
use Rattle.qz_control.specs.declared.marks.Covered.{Covered}

-- the context that is kept: a local that stands in no list is as at the root, and nothing is bound
unfoldable pub context_of : Marks → Context
context_of marks = record {
  marks = λ n. slice_index_or marks.of.items n Zero;
  bound = λ n. Known no;
}

-- one local has an instance with this mark
abbrev pub with_local : Context → ℕ → Mark → Context
with_local ctx local m = record { marks = λ n. if local == n then m else ctx.marks n; bound = ctx.bound }

-- the marks that were covered are back, the last one first
abbrev pub restored : Context → List Covered → Context
restored ctx [] = ctx
restored ctx (one ∷ others) = with_local (restored ctx others) one.local one.mark
