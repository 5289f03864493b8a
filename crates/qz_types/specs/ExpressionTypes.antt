-- The type of an expression as it is written, and what is said against it.
use Rattle.std.specs.Prelude.{ℕ, ◌+◌, ◌^◌, Bool, true, false, ◌&&◌, nat_lt, List, [], ◌∷◌, ◌++◌, Option, Some, None, is_some, option_and_then, if◌then◌else◌}
use Rattle.qz_values.specs.declared.Ty.{Ty}
use Rattle.qz_values.specs.declared.Ty.TheVariants.{Bool as Truth, Bv}
use Rattle.qz_values.specs.declared.Op1.{Op1}
use Rattle.qz_values.specs.declared.Op2.{Op2}
use Rattle.qz_values.specs.Types.{width_of, is_vector}
use Rattle.qz_values.specs.Tables.{type1_of, type2_of, choose_type, bit_type, slice_type, concat_type, has_room}
use Rattle.qz_syntax.specs.declared.file_expressions.FileExpr.{FileExpr}
use Rattle.qz_syntax.specs.declared.file_expressions.FileExpr.TheOpen.{FileExpr-F}
use Rattle.qz_syntax.specs.declared.file_expressions.FileExpr.TheFolds.{fold-FileExpr}
use Rattle.qz_types.specs.declared.faults.Fault.{Fault}
use Rattle.qz_types.specs.declared.faults.TypeKind.TheVariants.{UnknownName, TypeDiffers, WidthRange, LiteralRange, SliceRange}
use Rattle.qz_types.specs.declared.variables.Variable.{Variable}
use Rattle.qz_types.specs.Faults.{fault_at, unless}
use Rattle.qz_types.specs.Meanings.{Meanings}
use Rattle.qz_types.specs.WrittenTypes.{vectors, where_typed, where_both}

-- an expression's type, if it has one, and what is said against it
pub record Told : Type 0 where
  pub ty : Option Ty
  pub faults : List Fault

-- a literal: its width, or else its value
abbrev pub literal_faults : Option Ty → ℕ → ℕ → List Fault
literal_faults None value at = fault_at WidthRange at ∷ []
literal_faults (Some t) value at = unless (nat_lt value (2 ^ width_of t)) LiteralRange at

-- a name has the type of what it stands for
abbrev pub variable_told : Option Variable → ℕ → Told
variable_told None at = record { ty = None; faults = fault_at UnknownName at ∷ [] }
variable_told (Some v) at = record { ty = v.ty; faults = [] }

-- `!a`, `~a`
abbrev pub one_told : Op1 → ℕ → Told → Told
one_told op at a = record {
  ty = option_and_then (λ s. type1_of op s) a.ty;
  faults = a.faults ++ where_typed a.ty (λ s. unless (is_some (type1_of op s)) TypeDiffers at);
}

-- an operator with two operands
abbrev pub two_told : Op2 → ℕ → Told → Told → Told
two_told op at a b = record {
  ty = option_and_then (λ s. option_and_then (λ t. type2_of op s t) b.ty) a.ty;
  faults = a.faults ++ (b.faults ++ where_both a.ty b.ty (λ s t. unless (is_some (type2_of op s t)) TypeDiffers at));
}

-- `c ? a : b`
abbrev pub choice_told : ℕ → Told → Told → Told → Told
choice_told at c a b = record {
  ty = option_and_then (λ r. option_and_then (λ s. option_and_then (λ t. choose_type r s t) b.ty) a.ty) c.ty;
  faults = c.faults ++ (a.faults ++ (b.faults ++ where_typed c.ty (λ r. where_both a.ty b.ty (λ s t.
      unless (is_some (choose_type r s t)) TypeDiffers at))));
}

-- `a{high}`, `a{high:low}`
abbrev pub selected : Ty → ℕ → Option ℕ → Option Ty
selected t high None = bit_type t high
selected t high (Some low) = slice_type t high low

-- a vector is needed, and then it has to have the bits
abbrev pub selection_faults : ℕ → ℕ → Option ℕ → Ty → List Fault
selection_faults at high low t =
    if is_vector t then unless (is_some (selected t high low)) SliceRange at else fault_at TypeDiffers at ∷ []

abbrev pub selection_told : ℕ → ℕ → Option ℕ → Told → Told
selection_told at high low a = record {
  ty = option_and_then (λ t. selected t high low) a.ty;
  faults = a.faults ++ where_typed a.ty (selection_faults at high low);
}

-- two vectors are needed, and then together they must not be too wide
abbrev pub joining_faults : ℕ → Ty → Ty → List Fault
joining_faults at s t =
    if is_vector s && is_vector t then unless (has_room s t) WidthRange at else fault_at TypeDiffers at ∷ []

-- `a @ b`
abbrev pub joined_told : ℕ → Told → Told → Told
joined_told at a b = record {
  ty = option_and_then (λ s. option_and_then (λ t. concat_type s t) b.ty) a.ty;
  faults = a.faults ++ (b.faults ++ where_both a.ty b.ty (joining_faults at));
}

-- one expression, with what is told of each operand in its place
abbrev pub node_told : Meanings Variable → FileExpr-F Told → Told
node_told names (FileExpr-F.Bool value at) = record { ty = Some Truth; faults = [] }
node_told names (FileExpr-F.Lit width value at) =
    record { ty = vectors width; faults = literal_faults (vectors width) value at }
node_told names (FileExpr-F.Name name) = variable_told (names name.name) name.at
node_told names (FileExpr-F.Paren at inner) = inner
node_told names (FileExpr-F.Un op at a) = one_told op at a
node_told names (FileExpr-F.Bin op at a b) = two_told op at a b
node_told names (FileExpr-F.Choose at c a b) = choice_told at c a b
node_told names (FileExpr-F.Select at a high low) = selection_told at high low a
node_told names (FileExpr-F.Concat at a b) = joined_told at a b

-- what is told of an expression, where names stand for these variables
abbrev pub told : Meanings Variable → FileExpr → Told
told names = fold-FileExpr Told (node_told names)

-- the offset of a first token, given those of the operands
abbrev pub node_first_token : FileExpr-F ℕ → ℕ
node_first_token (FileExpr-F.Bool value at) = at
node_first_token (FileExpr-F.Lit width value at) = at
node_first_token (FileExpr-F.Name name) = name.at
node_first_token (FileExpr-F.Paren at inner) = at
node_first_token (FileExpr-F.Un op at a) = at
node_first_token (FileExpr-F.Bin op at a b) = a
node_first_token (FileExpr-F.Choose at c a b) = c
node_first_token (FileExpr-F.Select at a high low) = a
node_first_token (FileExpr-F.Concat at a b) = a

abbrev pub first_token : FileExpr → ℕ
first_token = fold-FileExpr ℕ node_first_token
