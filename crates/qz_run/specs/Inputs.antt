-- Rows of numbers as rows of a program's inputs.
use Rattle.std.specs.Prelude.{ℕ, ◌≡◌, ◌<◌, ◌^◌, List, [], ◌∷◌, map, length, if◌then◌else◌}
use Rattle.std.specs.List.{AllByRecursion}
use Rattle.qz_values.specs.declared.Ty.{Ty}
use Rattle.qz_values.specs.declared.Value.{Value}
use Rattle.qz_values.specs.Values.{value_of}
use Rattle.qz_syntax.specs.declared.declarations.Dir.{Dir}
use Rattle.qz_syntax.specs.declared.declarations.Formal.{Formal}
use Rattle.qz_syntax.specs.declared.expressions.Var.TheVariants as var
use Rattle.qz_meaning.specs.Programs.{Program, is_same_direction}
use Rattle.qz_trace.specs.declared.traces.Trace.{Trace}
use Rattle.qz_trace.specs.Rows.{IsRow, IsWhole, rows_in}

-- the types of a program's inputs, in their order
abbrev pub input_types : Program → List Ty
input_types p = map (λ n. p.type_of (var.Formal n)) p.inputs

-- the types of those formals that have this direction
abbrev pub types_of : Dir → List Formal → List Ty
types_of side [] = []
types_of side (formal ∷ formals) = if is_same_direction formal.dir side then formal.ty ∷ types_of side formals else types_of side formals

-- numbers as values of these types, one for each
abbrev pub values_of : List Ty → List ℕ → List Value
values_of [] numbers = []
values_of (t ∷ ts) [] = []
values_of (t ∷ ts) (n ∷ numbers) = value_of t n ∷ values_of ts numbers

-- rows of numbers as rows of a program's inputs
abbrev pub input_rows : Program → List (List ℕ) → List (List Value)
input_rows p rows = map (values_of (input_types p)) rows

-- a trace of rows of a program's inputs, of at most as many steps as a number of 32 bits counts
pub record IsInputTrace (p : Program) (inputs : Trace) : Type 0 where
  pub width : inputs.width ≡ length (input_types p)
  pub whole : IsWhole inputs
  pub each : AllByRecursion (IsRow (input_types p)) (rows_in inputs)
  pub short : inputs.steps < 2 ^ 32
