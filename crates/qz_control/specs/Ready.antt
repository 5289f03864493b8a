-- The trees that are compiled: their expressions have types, and they have no calls.
use Rattle.std.specs.Prelude.{Bool, true, false, ◌&&◌}
use Rattle.std.specs.List.{list_all}
use Rattle.qz_syntax.specs.declared.modules.Module.{Module}
use Rattle.qz_syntax.specs.declared.expressions.Expr.{Expr}
use Rattle.qz_syntax.specs.declared.statements.Stmt.{Stmt}
use Rattle.qz_syntax.specs.declared.statements.Stmt.TheOpen.{Stmt-F}
use Rattle.qz_syntax.specs.declared.statements.Stmt.TheFolds.{fold-Stmt}
use Rattle.qz_syntax.specs.Typing.{agree, is_condition}
use Rattle.qz_syntax.specs.Sound.{is_hold_of}
use Rattle.qz_control.specs.Typed.{declared_type, expr_type}

-- the condition is a bool
abbrev pub is_test : Module → Expr → Bool
is_test m condition = is_condition (expr_type m condition)

-- one statement, given whether each part is ready
abbrev pub node_is_ready : Module → Stmt-F Bool → Bool
node_is_ready m Stmt-F.Nothing = true
node_is_ready m (Stmt-F.Assign target value) = agree (declared_type m target) (expr_type m value)
node_is_ready m (Stmt-F.Delayed target value) = agree (declared_type m target) (expr_type m value)
node_is_ready m (Stmt-F.Pause place) = true
node_is_ready m (Stmt-F.Seq parts) = list_all (λ part. part) parts
node_is_ready m (Stmt-F.Par parts) = list_all (λ part. part) parts
node_is_ready m (Stmt-F.If condition first second) = is_test m condition && (first && second)
node_is_ready m (Stmt-F.Loop number body condition) = is_test m condition && body
node_is_ready m (Stmt-F.Abort kind body condition) = is_test m condition && body
node_is_ready m (Stmt-F.Suspend kind hold body condition) = is_hold_of kind hold && (is_test m condition && body)
node_is_ready m (Stmt-F.Scope locals body) = body
node_is_ready m (Stmt-F.Call number proto arguments) = false
node_is_ready m (Stmt-F.Bind bindings body) = false

-- whether a statement of the module can be compiled so far
abbrev pub is_ready : Module → Stmt → Bool
is_ready m = fold-Stmt Bool (node_is_ready m)
