-- The type of each form of expression, as an equation to rewrite by.
use Rattle.std.proofs.Common.{◌≡◌, Option, sym, ap, ap₂, ◌∙◌}
use Rattle.std.specs.Option.{option_and_then}
use Rattle.qz_values.specs.declared.Ty.{Ty}
use Rattle.qz_values.specs.declared.Op2.{Op2}
use Rattle.qz_values.specs.Tables.{type2_of, choose_type, concat_type}
use Rattle.qz_syntax.specs.declared.modules.Module.{Module}
use Rattle.qz_syntax.specs.declared.expressions.Expr.{Expr}
use Rattle.qz_syntax.specs.declared.expressions.Expr.TheOpen.{Expr-F}
use Rattle.qz_syntax.specs.declared.expressions.Expr.TheFolds.{fold-roll-Expr}
use Rattle.qz_syntax.specs.declared.expressions.Expr.TheVariants as expr
use Rattle.qz_syntax.specs.Typing.{node_type}
use Rattle.qz_control.specs.Typed.{declared_type, expr_type}

pub type-Bin : (m : Module) (op : Op2) (a b : Expr)
    → expr_type m (expr.Bin op a b) ≡ option_and_then (λ s. option_and_then (λ t. type2_of op s t) (expr_type m b)) (expr_type m a)
type-Bin m op a b = ap (expr_type m) (sym (expr.rolls-Bin op a b)) ∙ fold-roll-Expr (Option Ty) (node_type (declared_type m)) (Expr-F.Bin op a b)

pub type-Choose : (m : Module) (c a b : Expr)
    → expr_type m (expr.Choose c a b)
    ≡ option_and_then (λ r. option_and_then (λ s. option_and_then (λ t. choose_type r s t) (expr_type m b)) (expr_type m a)) (expr_type m c)
type-Choose m c a b = ap (expr_type m) (sym (expr.rolls-Choose c a b)) ∙ fold-roll-Expr (Option Ty) (node_type (declared_type m)) (Expr-F.Choose c a b)

pub type-Concat : (m : Module) (a b : Expr)
    → expr_type m (expr.Concat a b) ≡ option_and_then (λ s. option_and_then (λ t. concat_type s t) (expr_type m b)) (expr_type m a)
type-Concat m a b = ap (expr_type m) (sym (expr.rolls-Concat a b)) ∙ fold-roll-Expr (Option Ty) (node_type (declared_type m)) (Expr-F.Concat a b)

-- the same of an expression that has the form, whose operands are these
pub type_bin : (m : Module) (e : Expr) (op : Op2) (a b one two : Expr) → e ≡ expr.Bin op a b → one ≡ a → two ≡ b
    → expr_type m e ≡ option_and_then (λ s. option_and_then (λ t. type2_of op s t) (expr_type m two)) (expr_type m one)
type_bin m e op a b one two is i j =
    ap (expr_type m) is ∙ type-Bin m op a b
    ∙ ap₂ (λ x y. option_and_then (λ s. option_and_then (λ t. type2_of op s t) (expr_type m y)) (expr_type m x)) (sym i) (sym j)

pub type_concat : (m : Module) (e : Expr) (a b one two : Expr) → e ≡ expr.Concat a b → one ≡ a → two ≡ b
    → expr_type m e ≡ option_and_then (λ s. option_and_then (λ t. concat_type s t) (expr_type m two)) (expr_type m one)
type_concat m e a b one two is i j =
    ap (expr_type m) is ∙ type-Concat m a b
    ∙ ap₂ (λ x y. option_and_then (λ s. option_and_then (λ t. concat_type s t) (expr_type m y)) (expr_type m x)) (sym i) (sym j)

pub type_choose : (m : Module) (e : Expr) (c a b zero one two : Expr) → e ≡ expr.Choose c a b → zero ≡ c → one ≡ a → two ≡ b
    → expr_type m e
    ≡ option_and_then (λ r. option_and_then (λ s. option_and_then (λ t. choose_type r s t) (expr_type m two)) (expr_type m one)) (expr_type m zero)
type_choose m e c a b zero one two is h i j =
    ap (expr_type m) is ∙ type-Choose m c a b
    ∙ ap₂ (λ x y. option_and_then (λ r. option_and_then (λ s. option_and_then (λ t. choose_type r s t) (expr_type m y)) (expr_type m x)) (expr_type m c)) (sym i) (sym j)
    ∙ ap (λ x. option_and_then (λ r. option_and_then (λ s. option_and_then (λ t. choose_type r s t) (expr_type m two)) (expr_type m one)) (expr_type m x)) (sym h)
