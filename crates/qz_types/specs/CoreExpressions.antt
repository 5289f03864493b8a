-- The expressions of the core tree: without parentheses, with variables by their numbers.
-- Where nothing is said against a file, each of its names stands for a variable, and its widths, values and
-- indices are in range; for any other a variable, a type, a value and an index are named here all the same.
use Rattle.std.specs.Prelude.{ℕ, ◌^◌, Bool, ◌&&◌, nat_lt, List, Option, Some, None, unwrap_or, if◌then◌else◌}
use Rattle.qz_values.specs.declared.Ty.{Ty}
use Rattle.qz_values.specs.declared.Ty.TheVariants.{Bool as Truth, Bv}
use Rattle.qz_values.specs.declared.Value.{Value}
use Rattle.qz_values.specs.Types.{is_type}
use Rattle.qz_values.specs.Values.{value_of, truth_of, no}
use Rattle.qz_syntax.specs.declared.expressions.Var.{Var}
use Rattle.qz_syntax.specs.declared.expressions.Var.TheVariants as var
use Rattle.qz_syntax.specs.declared.expressions.Expr.{Expr}
use Rattle.qz_syntax.specs.declared.expressions.Expr.TheVariants as expr
use Rattle.qz_syntax.specs.declared.file_expressions.FileExpr.{FileExpr}
use Rattle.qz_syntax.specs.declared.file_expressions.FileExpr.TheOpen.{FileExpr-F}
use Rattle.qz_syntax.specs.declared.file_expressions.FileExpr.TheFolds.{fold-FileExpr}
use Rattle.qz_syntax.specs.declared.files.TypeText.{TypeText}
use Rattle.qz_types.specs.Meanings.{Meanings}
use Rattle.qz_types.specs.WrittenTypes.{type_of_text}

-- the type that is written
abbrev pub core_type : TypeText → Ty
core_type text = unwrap_or (type_of_text text) Truth

-- the variable that a name stands for
abbrev pub core_variable : Meanings Var → List ℕ → Var
core_variable names name = unwrap_or (names name) (var.Formal 0)

-- the value of a literal
abbrev pub literal_value : ℕ → ℕ → Value
literal_value width value = if is_type (Bv width) && nat_lt value (2 ^ width) then value_of (Bv width) value else no

-- an index, which is a byte
abbrev pub core_index : ℕ → ℕ
core_index index = if nat_lt index 256 then index else 0

-- `a{high}` or `a{high:low}`
abbrev pub core_selection : Expr → ℕ → Option ℕ → Expr
core_selection a high None = expr.Bit a (core_index high)
core_selection a high (Some low) = expr.Slice a (core_index high) (core_index low)

-- one expression, given what its operands are in the core tree
abbrev pub node_core_expression : Meanings Var → FileExpr-F Expr → Expr
node_core_expression names (FileExpr-F.Bool value at) = expr.Lit (truth_of value)
node_core_expression names (FileExpr-F.Lit width value at) = expr.Lit (literal_value width value)
node_core_expression names (FileExpr-F.Name name) = expr.Var (core_variable names name.name)
node_core_expression names (FileExpr-F.Paren at inner) = inner
node_core_expression names (FileExpr-F.Un op at a) = expr.Un op a
node_core_expression names (FileExpr-F.Bin op at a b) = expr.Bin op a b
node_core_expression names (FileExpr-F.Choose at c a b) = expr.Choose c a b
node_core_expression names (FileExpr-F.Select at a high low) = core_selection a high low
node_core_expression names (FileExpr-F.Concat at a b) = expr.Concat a b

-- an expression in the core tree, where names stand for these variables
abbrev pub core_expression : Meanings Var → FileExpr → Expr
core_expression names = fold-FileExpr Expr (node_core_expression names)
