-- The types of expressions, and what may be read and written at a place of a tree.
use Rattle.std.specs.Prelude.{ℕ, ◌^◌, Bool, true, false, ◌==◌, ◌&&◌, nat_lt, List, [], ◌∷◌, Option, Some, None, slice_get, if◌then◌else◌}
use Rattle.std.specs.Option.{option_map, option_and_then}
use Rattle.qz_values.specs.declared.Ty.{Ty}
use Rattle.qz_values.specs.declared.Value.{Value}
use Rattle.qz_values.specs.Types.{width_of, is_type, is_bool, is_same_type}
use Rattle.qz_values.specs.Values.{type_of as type_of_value, bits_of}
use Rattle.qz_values.specs.Tables.{type1_of, type2_of, choose_type, bit_type, slice_type, concat_type}
use Rattle.qz_syntax.specs.declared.declarations.Class.{Class}
use Rattle.qz_syntax.specs.declared.declarations.Class.TheVariants.{Event, Mem}
use Rattle.qz_syntax.specs.declared.declarations.Dir.TheVariants as dir
use Rattle.qz_syntax.specs.declared.declarations.Formal.{Formal}
use Rattle.qz_syntax.specs.declared.declarations.Decl.{Decl}
use Rattle.qz_syntax.specs.declared.declarations.Proto.{Proto}
use Rattle.qz_syntax.specs.declared.expressions.Var.{Var}
use Rattle.qz_syntax.specs.declared.expressions.Var.TheVariants as var
use Rattle.qz_syntax.specs.declared.expressions.Expr.{Expr}
use Rattle.qz_syntax.specs.declared.expressions.Expr.TheOpen.{Expr-F}
use Rattle.qz_syntax.specs.declared.expressions.Expr.TheFolds.{fold-Expr}
use Rattle.qz_syntax.specs.Numbers.{contains}

-- a literal is a value of its type
abbrev pub literal_type : Value → Option Ty
literal_type v = if is_type (type_of_value v) && nat_lt (bits_of v) (2 ^ width_of (type_of_value v)) then Some (type_of_value v) else None

-- one expression, with the type of each operand in its place
abbrev pub node_type : (Var → Option Ty) → Expr-F (Option Ty) → Option Ty
node_type variable_type (Expr-F.Lit value) = literal_type value
node_type variable_type (Expr-F.Var variable) = variable_type variable
node_type variable_type (Expr-F.Un op a) = option_and_then (λ s. type1_of op s) a
node_type variable_type (Expr-F.Bin op a b) = option_and_then (λ s. option_and_then (λ t. type2_of op s t) b) a
node_type variable_type (Expr-F.Choose c a b) =
    option_and_then (λ r. option_and_then (λ s. option_and_then (λ t. choose_type r s t) b) a) c
node_type variable_type (Expr-F.Bit a index) = option_and_then (λ s. bit_type s index) a
node_type variable_type (Expr-F.Slice a high low) = option_and_then (λ s. slice_type s high low) a
node_type variable_type (Expr-F.Concat a b) = option_and_then (λ s. option_and_then (λ t. concat_type s t) b) a

-- the type of an expression, given those of the variables; `None`: it has none
abbrev pub type_of : (Var → Option Ty) → Expr → Option Ty
type_of variable_type = fold-Expr (Option Ty) (node_type variable_type)

-- what the numbers of variables and of prototypes stand for
pub record Declared : Type 0 where
  pub protos : List Proto
  pub formals : List Formal
  pub decls : List Decl

-- what may be named at a place: the locals whose scopes are round it, and the arguments that are bound round it
pub record Sight : Type 0 where
  pub locals : List ℕ
  pub bound : List (ℕ × Ty)

-- at the root of a body only formals may be named
abbrev pub no_sight : Sight
no_sight = record { locals = []; bound = [] }

-- the type that is bound to a number
abbrev pub bound_type : List (ℕ × Ty) → ℕ → Option Ty
bound_type [] n = None
bound_type (entry ∷ rest) n = if entry.0 == n then Some entry.1 else bound_type rest n

-- the type of a variable where it is read
abbrev pub read_type : Declared → Sight → Var → Option Ty
read_type declared sight (var.Formal n) = option_map (λ (formal : Formal). formal.ty) (slice_get declared.formals n)
read_type declared sight (var.Local n) =
    if contains sight.locals n then option_map (λ (decl : Decl). decl.ty) (slice_get declared.decls n) else None
read_type declared sight (var.Bound n) = bound_type sight.bound n

-- class and type of what may be written
pub record Target : Type 0 where
  pub class : Class
  pub ty : Ty

-- an output may be written, and an input may not
abbrev pub formal_target : Formal → Option Target
formal_target formal = elim formal.dir [ dir.In ↦ None | dir.Out ↦ Some (record { class = formal.class; ty = formal.ty }) ]

-- a local may be written
abbrev pub decl_target : Decl → Target
decl_target decl = record { class = decl.class; ty = decl.ty }

-- a variable where it is written: an output or a local; `None` at an input and at a bound argument
abbrev pub written_as : Declared → Sight → Var → Option Target
written_as declared sight (var.Formal n) = option_and_then formal_target (slice_get declared.formals n)
written_as declared sight (var.Local n) =
    if contains sight.locals n then option_map decl_target (slice_get declared.decls n) else None
written_as declared sight (var.Bound n) = None

-- whether two classes are one
abbrev pub is_same_class : Class → Class → Bool
is_same_class Event Event = true
is_same_class Event Mem = false
is_same_class Mem Event = false
is_same_class Mem Mem = true

-- whether there are two types and they are one
abbrev pub agree : Option Ty → Option Ty → Bool
agree (Some s) (Some t) = is_same_type s t
agree (Some s) None = false
agree None other = false

-- whether there is a type and it is `bool`
abbrev pub is_condition : Option Ty → Bool
is_condition (Some t) = is_bool t
is_condition None = false
