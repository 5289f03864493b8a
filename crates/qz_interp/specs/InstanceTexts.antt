-- The texts by which instances are named. They are bytes.
use Rattle.std.specs.Prelude.{ℕ, List, [], ◌++◌, codes, encode_utf8_all, slice_get, slice_index_or}
use Rattle.std.specs.Option.{option_map_or}
use Rattle.qz_syntax.specs.declared.declarations.Formal.{Formal}
use Rattle.qz_syntax.specs.declared.expressions.Var.{Var}
use Rattle.qz_syntax.specs.declared.expressions.Var.TheVariants as var
use Rattle.qz_syntax.specs.declared.modules.Whole.{Whole}
use Rattle.qz_syntax.specs.declared.places.Mark.{Mark}
use Rattle.qz_syntax.specs.declared.places.Mark.TheVariants.{Here, Zero, Loop}
use Rattle.qz_meaning.specs.Instances.{Instance}

-- a variable: an output's name, a local's text
abbrev pub variable_text : Whole → Var → List ℕ
variable_text w (var.Formal n) = option_map_or (λ (formal : Formal). encode_utf8_all formal.name) (slice_get w.module.formals n) []
variable_text w (var.Local n) = slice_index_or w.names.locals n []
variable_text w (var.Bound n) = []

-- a loop's mark: `@` and the loop's text
abbrev pub mark_text : Whole → Mark → List ℕ
mark_text w Here = []
mark_text w Zero = []
mark_text w (Loop q) = codes "@" ++ slice_index_or w.names.loops q []

-- an instance: its variable's text, and its loop's behind it, as `x#0@1`
abbrev pub instance_text : Whole → Instance → List ℕ
instance_text w i = variable_text w i.variable ++ mark_text w i.mark
