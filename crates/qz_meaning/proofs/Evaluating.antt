-- What is known of each form of expression, as an equation to rewrite by.
use Rattle.std.proofs.Common.{◌≡◌, ℕ, sym, ap, ◌∙◌}
use Rattle.qz_values.specs.declared.Value.{Value}
use Rattle.qz_values.specs.declared.Op1.{Op1}
use Rattle.qz_values.specs.declared.Op2.{Op2}
use Rattle.qz_values.specs.declared.Know.{Know}
use Rattle.qz_values.specs.declared.Know.TheVariants.{Known}
use Rattle.qz_values.specs.Knowledge.{apply1_of, apply2_of, choose_of, bit_of, slice_of, concat_of}
use Rattle.qz_syntax.specs.declared.expressions.Expr.{Expr}
use Rattle.qz_syntax.specs.declared.expressions.Expr.TheOpen.{Expr-F}
use Rattle.qz_syntax.specs.declared.expressions.Expr.TheFolds.{fold-roll-Expr}
use Rattle.qz_syntax.specs.declared.expressions.Expr.TheVariants as expr
use Rattle.qz_syntax.specs.declared.expressions.Var.{Var as Variable}
use Rattle.qz_meaning.specs.Scenes.{Scene, Context}
use Rattle.qz_meaning.specs.Expressions.{known_here, node_value, value_here}

pub value-Lit : (scene : Scene) (ctx : Context) (v : Value) → value_here scene ctx (expr.Lit v) ≡ Known v
value-Lit scene ctx v = ap (value_here scene ctx) (sym (expr.rolls-Lit v)) ∙ fold-roll-Expr Know (node_value scene ctx) (Expr-F.Lit v)

pub value-Var : (scene : Scene) (ctx : Context) (x : Variable) → value_here scene ctx (expr.Var x) ≡ known_here scene ctx x
value-Var scene ctx x = ap (value_here scene ctx) (sym (expr.rolls-Var x)) ∙ fold-roll-Expr Know (node_value scene ctx) (Expr-F.Var x)

pub value-Un : (scene : Scene) (ctx : Context) (op : Op1) (a : Expr)
    → value_here scene ctx (expr.Un op a) ≡ apply1_of op (value_here scene ctx a)
value-Un scene ctx op a = ap (value_here scene ctx) (sym (expr.rolls-Un op a)) ∙ fold-roll-Expr Know (node_value scene ctx) (Expr-F.Un op a)

pub value-Bin : (scene : Scene) (ctx : Context) (op : Op2) (a b : Expr)
    → value_here scene ctx (expr.Bin op a b) ≡ apply2_of op (value_here scene ctx a) (value_here scene ctx b)
value-Bin scene ctx op a b =
    ap (value_here scene ctx) (sym (expr.rolls-Bin op a b)) ∙ fold-roll-Expr Know (node_value scene ctx) (Expr-F.Bin op a b)

pub value-Choose : (scene : Scene) (ctx : Context) (c a b : Expr)
    → value_here scene ctx (expr.Choose c a b) ≡ choose_of (value_here scene ctx c) (value_here scene ctx a) (value_here scene ctx b)
value-Choose scene ctx c a b =
    ap (value_here scene ctx) (sym (expr.rolls-Choose c a b)) ∙ fold-roll-Expr Know (node_value scene ctx) (Expr-F.Choose c a b)

pub value-Bit : (scene : Scene) (ctx : Context) (a : Expr) (index : ℕ)
    → value_here scene ctx (expr.Bit a index) ≡ bit_of (value_here scene ctx a) index
value-Bit scene ctx a index =
    ap (value_here scene ctx) (sym (expr.rolls-Bit a index)) ∙ fold-roll-Expr Know (node_value scene ctx) (Expr-F.Bit a index)

pub value-Slice : (scene : Scene) (ctx : Context) (a : Expr) (high low : ℕ)
    → value_here scene ctx (expr.Slice a high low) ≡ slice_of (value_here scene ctx a) high low
value-Slice scene ctx a high low =
    ap (value_here scene ctx) (sym (expr.rolls-Slice a high low)) ∙ fold-roll-Expr Know (node_value scene ctx) (Expr-F.Slice a high low)

pub value-Concat : (scene : Scene) (ctx : Context) (a b : Expr)
    → value_here scene ctx (expr.Concat a b) ≡ concat_of (value_here scene ctx a) (value_here scene ctx b)
value-Concat scene ctx a b =
    ap (value_here scene ctx) (sym (expr.rolls-Concat a b)) ∙ fold-roll-Expr Know (node_value scene ctx) (Expr-F.Concat a b)

pub ruleset evaluating = (value-Lit, value-Var, value-Un, value-Bin, value-Choose, value-Bit, value-Slice, value-Concat)
