-- What a fold over a tree gives at each form of statement and of expression.
use Rattle.std.proofs.Common.{◌≡◌, ℕ, List, map, Option, sym, ap, ◌∙◌}
use Rattle.qz_values.specs.declared.Value.{Value}
use Rattle.qz_values.specs.declared.Op1.{Op1}
use Rattle.qz_values.specs.declared.Op2.{Op2}
use Rattle.qz_syntax.specs.declared.expressions.Var.{Var}
use Rattle.qz_syntax.specs.declared.expressions.Expr.{Expr}
use Rattle.qz_syntax.specs.declared.expressions.Expr.TheVariants as expr
use Rattle.qz_syntax.specs.declared.expressions.Expr.TheOpen.{Expr-F}
use Rattle.qz_syntax.specs.declared.expressions.Expr.TheFolds.{fold-Expr, fold-roll-Expr}
use Rattle.qz_syntax.specs.declared.statements.Kind.{Kind}
use Rattle.qz_syntax.specs.declared.statements.Arg.{Arg}
use Rattle.qz_syntax.specs.declared.statements.Binding.{Binding}
use Rattle.qz_syntax.specs.declared.statements.Stmt.{Stmt}
use Rattle.qz_syntax.specs.declared.statements.Stmt.TheVariants as stmt
use Rattle.qz_syntax.specs.declared.statements.Stmt.TheOpen.{Stmt-F}
use Rattle.qz_syntax.specs.declared.statements.Stmt.TheFolds.{fold-Stmt, fold-roll-Stmt}

module _ (A : Type 0) (step : Stmt-F A → A) where
  pub fold-Nothing : fold-Stmt A step stmt.Nothing ≡ step Stmt-F.Nothing
  fold-Nothing = ap (fold-Stmt A step) (sym stmt.rolls-Nothing) ∙ fold-roll-Stmt A step Stmt-F.Nothing

  pub fold-Assign : (target : Var) (value : Expr) → fold-Stmt A step (stmt.Assign target value) ≡ step (Stmt-F.Assign target value)
  fold-Assign target value = ap (fold-Stmt A step) (sym (stmt.rolls-Assign target value)) ∙ fold-roll-Stmt A step (Stmt-F.Assign target value)

  pub fold-Delayed : (target : Var) (value : Expr) → fold-Stmt A step (stmt.Delayed target value) ≡ step (Stmt-F.Delayed target value)
  fold-Delayed target value = ap (fold-Stmt A step) (sym (stmt.rolls-Delayed target value)) ∙ fold-roll-Stmt A step (Stmt-F.Delayed target value)

  pub fold-Pause : (place : ℕ) → fold-Stmt A step (stmt.Pause place) ≡ step (Stmt-F.Pause place)
  fold-Pause place = ap (fold-Stmt A step) (sym (stmt.rolls-Pause place)) ∙ fold-roll-Stmt A step (Stmt-F.Pause place)

  pub fold-Seq : (parts : List Stmt) → fold-Stmt A step (stmt.Seq parts) ≡ step (Stmt-F.Seq (map (fold-Stmt A step) parts))
  fold-Seq parts = ap (fold-Stmt A step) (sym (stmt.rolls-Seq parts)) ∙ fold-roll-Stmt A step (Stmt-F.Seq parts)

  pub fold-Par : (parts : List Stmt) → fold-Stmt A step (stmt.Par parts) ≡ step (Stmt-F.Par (map (fold-Stmt A step) parts))
  fold-Par parts = ap (fold-Stmt A step) (sym (stmt.rolls-Par parts)) ∙ fold-roll-Stmt A step (Stmt-F.Par parts)

  pub fold-If : (condition : Expr) (first second : Stmt)
      → fold-Stmt A step (stmt.If condition first second) ≡ step (Stmt-F.If condition (fold-Stmt A step first) (fold-Stmt A step second))
  fold-If condition first second = ap (fold-Stmt A step) (sym (stmt.rolls-If condition first second)) ∙ fold-roll-Stmt A step (Stmt-F.If condition first second)

  pub fold-Loop : (number : ℕ) (body : Stmt) (condition : Expr)
      → fold-Stmt A step (stmt.Loop number body condition) ≡ step (Stmt-F.Loop number (fold-Stmt A step body) condition)
  fold-Loop number body condition = ap (fold-Stmt A step) (sym (stmt.rolls-Loop number body condition)) ∙ fold-roll-Stmt A step (Stmt-F.Loop number body condition)

  pub fold-Abort : (kind : Kind) (body : Stmt) (condition : Expr)
      → fold-Stmt A step (stmt.Abort kind body condition) ≡ step (Stmt-F.Abort kind (fold-Stmt A step body) condition)
  fold-Abort kind body condition = ap (fold-Stmt A step) (sym (stmt.rolls-Abort kind body condition)) ∙ fold-roll-Stmt A step (Stmt-F.Abort kind body condition)

  pub fold-Suspend : (kind : Kind) (hold : Option ℕ) (body : Stmt) (condition : Expr)
      → fold-Stmt A step (stmt.Suspend kind hold body condition) ≡ step (Stmt-F.Suspend kind hold (fold-Stmt A step body) condition)
  fold-Suspend kind hold body condition = ap (fold-Stmt A step) (sym (stmt.rolls-Suspend kind hold body condition)) ∙ fold-roll-Stmt A step (Stmt-F.Suspend kind hold body condition)

  pub fold-Scope : (locals : List ℕ) (body : Stmt) → fold-Stmt A step (stmt.Scope locals body) ≡ step (Stmt-F.Scope locals (fold-Stmt A step body))
  fold-Scope locals body = ap (fold-Stmt A step) (sym (stmt.rolls-Scope locals body)) ∙ fold-roll-Stmt A step (Stmt-F.Scope locals body)

  pub fold-Call : (number proto : ℕ) (arguments : List Arg)
      → fold-Stmt A step (stmt.Call number proto arguments) ≡ step (Stmt-F.Call number proto arguments)
  fold-Call number proto arguments = ap (fold-Stmt A step) (sym (stmt.rolls-Call number proto arguments)) ∙ fold-roll-Stmt A step (Stmt-F.Call number proto arguments)

  pub fold-Bind : (bindings : List Binding) (body : Stmt) → fold-Stmt A step (stmt.Bind bindings body) ≡ step (Stmt-F.Bind bindings (fold-Stmt A step body))
  fold-Bind bindings body = ap (fold-Stmt A step) (sym (stmt.rolls-Bind bindings body)) ∙ fold-roll-Stmt A step (Stmt-F.Bind bindings body)

module _ (A : Type 0) (step : Expr-F A → A) where
  pub fold-Lit : (value : Value) → fold-Expr A step (expr.Lit value) ≡ step (Expr-F.Lit value)
  fold-Lit value = ap (fold-Expr A step) (sym (expr.rolls-Lit value)) ∙ fold-roll-Expr A step (Expr-F.Lit value)

  pub fold-Var : (variable : Var) → fold-Expr A step (expr.Var variable) ≡ step (Expr-F.Var variable)
  fold-Var variable = ap (fold-Expr A step) (sym (expr.rolls-Var variable)) ∙ fold-roll-Expr A step (Expr-F.Var variable)

  pub fold-Un : (op : Op1) (a : Expr) → fold-Expr A step (expr.Un op a) ≡ step (Expr-F.Un op (fold-Expr A step a))
  fold-Un op a = ap (fold-Expr A step) (sym (expr.rolls-Un op a)) ∙ fold-roll-Expr A step (Expr-F.Un op a)

  pub fold-Bin : (op : Op2) (a b : Expr) → fold-Expr A step (expr.Bin op a b) ≡ step (Expr-F.Bin op (fold-Expr A step a) (fold-Expr A step b))
  fold-Bin op a b = ap (fold-Expr A step) (sym (expr.rolls-Bin op a b)) ∙ fold-roll-Expr A step (Expr-F.Bin op a b)

  pub fold-Choose : (c a b : Expr)
      → fold-Expr A step (expr.Choose c a b) ≡ step (Expr-F.Choose (fold-Expr A step c) (fold-Expr A step a) (fold-Expr A step b))
  fold-Choose c a b = ap (fold-Expr A step) (sym (expr.rolls-Choose c a b)) ∙ fold-roll-Expr A step (Expr-F.Choose c a b)

  pub fold-Bit : (a : Expr) (index : ℕ) → fold-Expr A step (expr.Bit a index) ≡ step (Expr-F.Bit (fold-Expr A step a) index)
  fold-Bit a index = ap (fold-Expr A step) (sym (expr.rolls-Bit a index)) ∙ fold-roll-Expr A step (Expr-F.Bit a index)

  pub fold-Slice : (a : Expr) (high low : ℕ) → fold-Expr A step (expr.Slice a high low) ≡ step (Expr-F.Slice (fold-Expr A step a) high low)
  fold-Slice a high low = ap (fold-Expr A step) (sym (expr.rolls-Slice a high low)) ∙ fold-roll-Expr A step (Expr-F.Slice a high low)

  pub fold-Concat : (a b : Expr) → fold-Expr A step (expr.Concat a b) ≡ step (Expr-F.Concat (fold-Expr A step a) (fold-Expr A step b))
  fold-Concat a b = ap (fold-Expr A step) (sym (expr.rolls-Concat a b)) ∙ fold-roll-Expr A step (Expr-F.Concat a b)
