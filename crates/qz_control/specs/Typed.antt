-- The types of variables and expressions in a module, wherever they stand in it.
use Rattle.std.specs.Prelude.{Option, None, slice_get}
use Rattle.std.specs.Option.{option_and_then}
use Rattle.qz_values.specs.declared.Ty.{Ty}
use Rattle.qz_nets.specs.Nets.{leaf_type}
use Rattle.qz_syntax.specs.declared.declarations.Formal.{Formal}
use Rattle.qz_syntax.specs.declared.declarations.Decl.{Decl}
use Rattle.qz_syntax.specs.declared.modules.Module.{Module}
use Rattle.qz_syntax.specs.declared.expressions.Var.{Var}
use Rattle.qz_syntax.specs.declared.expressions.Var.TheVariants as var
use Rattle.qz_syntax.specs.declared.expressions.Expr.{Expr}
use Rattle.qz_syntax.specs.Typing.{type_of}

-- the type that a variable is declared with, if it is a type; a bound one is in no module
abbrev pub declared_type : Module → Var → Option Ty
declared_type m (var.Formal n) = option_and_then (λ (formal : Formal). leaf_type formal.ty) (slice_get m.formals n)
declared_type m (var.Local n) = option_and_then (λ (decl : Decl). leaf_type decl.ty) (slice_get m.decls n)
declared_type m (var.Bound n) = None

-- the type of an expression over the module's variables
abbrev pub expr_type : Module → Expr → Option Ty
expr_type m = type_of (declared_type m)
