-- What is told of each form of expression.
use Rattle.std.proofs.Common.{◌≡◌, ℕ, Option, sym, ap, ◌∙◌}
use Rattle.qz_values.specs.declared.Op1.{Op1}
use Rattle.qz_values.specs.declared.Op2.{Op2}
use Rattle.qz_syntax.specs.declared.file_expressions.FileExpr.{FileExpr}
use Rattle.qz_syntax.specs.declared.file_expressions.FileExpr.TheVariants as expr
use Rattle.qz_syntax.specs.declared.file_expressions.FileExpr.TheOpen.{FileExpr-F}
use Rattle.qz_syntax.specs.declared.file_expressions.FileExpr.TheFolds.{fold-roll-FileExpr}
use Rattle.qz_types.specs.declared.variables.Variable.{Variable}
use Rattle.qz_types.specs.Meanings.{Meanings}
use Rattle.qz_types.specs.ExpressionTypes.{Told, node_told, told, one_told, two_told, choice_told, selection_told, joined_told}

module _ (names : Meanings Variable) where
  pub told-Un : (op : Op1) (at : ℕ) (a : FileExpr) → told names (expr.Un op at a) ≡ one_told op at (told names a)
  told-Un op at a = ap (told names) (sym (expr.rolls-Un op at a)) ∙ fold-roll-FileExpr Told (node_told names) (FileExpr-F.Un op at a)

  pub told-Bin : (op : Op2) (at : ℕ) (a b : FileExpr) → told names (expr.Bin op at a b) ≡ two_told op at (told names a) (told names b)
  told-Bin op at a b = ap (told names) (sym (expr.rolls-Bin op at a b)) ∙ fold-roll-FileExpr Told (node_told names) (FileExpr-F.Bin op at a b)

  pub told-Choose : (at : ℕ) (c a b : FileExpr) → told names (expr.Choose at c a b) ≡ choice_told at (told names c) (told names a) (told names b)
  told-Choose at c a b = ap (told names) (sym (expr.rolls-Choose at c a b)) ∙ fold-roll-FileExpr Told (node_told names) (FileExpr-F.Choose at c a b)

  pub told-Select : (at : ℕ) (a : FileExpr) (high : ℕ) (low : Option ℕ) → told names (expr.Select at a high low) ≡ selection_told at high low (told names a)
  told-Select at a high low = ap (told names) (sym (expr.rolls-Select at a high low)) ∙ fold-roll-FileExpr Told (node_told names) (FileExpr-F.Select at a high low)

  pub told-Concat : (at : ℕ) (a b : FileExpr) → told names (expr.Concat at a b) ≡ joined_told at (told names a) (told names b)
  told-Concat at a b = ap (told names) (sym (expr.rolls-Concat at a b)) ∙ fold-roll-FileExpr Told (node_told names) (FileExpr-F.Concat at a b)
