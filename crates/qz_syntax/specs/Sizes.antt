-- How large a tree is: a sum over its nodes, which are its statements, declarations and expressions.
use Rattle.std.specs.Prelude.{ℕ, ◌+◌, ◌-◌, ◌*◌, ◌^◌, min, nat_lt, length, if◌then◌else◌}
use Rattle.std.specs.List.{sum_by}
use Rattle.qz_syntax.specs.declared.expressions.Expr.{Expr}
use Rattle.qz_syntax.specs.declared.expressions.Expr.TheOpen.{Expr-F}
use Rattle.qz_syntax.specs.declared.expressions.Expr.TheFolds.{fold-Expr}
use Rattle.qz_syntax.specs.declared.statements.Arg.{Arg}
use Rattle.qz_syntax.specs.declared.statements.Arg.TheVariants.{In, Out}
use Rattle.qz_syntax.specs.declared.statements.Binding.{Binding}
use Rattle.qz_syntax.specs.declared.statements.Stmt.{Stmt}
use Rattle.qz_syntax.specs.declared.statements.Stmt.TheOpen.{Stmt-F}
use Rattle.qz_syntax.specs.declared.statements.Stmt.TheFolds.{fold-Stmt}
use Rattle.qz_syntax.specs.declared.modules.Module.{Module}
use Rattle.qz_syntax.specs.Numbers.{parts_of, depth_of}

-- one expression, with the number of nodes of each operand in its place
abbrev pub node_expression : Expr-F ℕ → ℕ
node_expression (Expr-F.Lit value) = 1
node_expression (Expr-F.Var variable) = 1
node_expression (Expr-F.Un op a) = 1 + a
node_expression (Expr-F.Bin op a b) = 1 + a + b
node_expression (Expr-F.Choose c a b) = 1 + c + a + b
node_expression (Expr-F.Bit a index) = 1 + a
node_expression (Expr-F.Slice a high low) = 1 + a
node_expression (Expr-F.Concat a b) = 1 + a + b

-- how many nodes an expression has
abbrev pub expression_nodes : Expr → ℕ
expression_nodes = fold-Expr ℕ node_expression

-- an input argument's expression; an output argument is no node
abbrev pub argument_nodes : Arg → ℕ
argument_nodes (In value) = expression_nodes value
argument_nodes (Out variable) = 0

-- a bound argument's expression
abbrev pub binding_nodes : Binding → ℕ
binding_nodes binding = expression_nodes binding.value

-- a statement's own node, those of its expressions and those of its declarations
abbrev pub own_nodes : {A : Type 0} → Stmt-F A → ℕ
own_nodes (Stmt-F.Assign target value) = 1 + expression_nodes value
own_nodes (Stmt-F.Delayed target value) = 1 + expression_nodes value
own_nodes (Stmt-F.If condition first second) = 1 + expression_nodes condition
own_nodes (Stmt-F.Loop number body condition) = 1 + expression_nodes condition
own_nodes (Stmt-F.Abort kind body condition) = 1 + expression_nodes condition
own_nodes (Stmt-F.Suspend kind hold body condition) = 1 + expression_nodes condition
own_nodes (Stmt-F.Scope locals body) = 1 + length locals
own_nodes (Stmt-F.Call number proto arguments) = 1 + sum_by argument_nodes arguments
own_nodes (Stmt-F.Bind bindings body) = 1 + sum_by binding_nodes bindings
own_nodes other = 1

-- how many loops are round a statement's parts; a loop's condition stands outside it
abbrev pub loops_inside : {A : Type 0} → Stmt-F A → ℕ → ℕ
loops_inside (Stmt-F.Loop number body condition) loops = loops + 1
loops_inside other loops = loops

-- one statement, given what a node counts inside how many loops, and how many loops are round it
abbrev pub node_sum : (ℕ → ℕ) → Stmt-F (ℕ → ℕ) → ℕ → ℕ
node_sum weight node loops =
    own_nodes node * weight loops + sum_by (λ part. part (loops_inside node loops)) (parts_of node)

-- the sum over the nodes of a statement that stands inside some loops
abbrev pub sum_over_nodes : (ℕ → ℕ) → Stmt → ℕ → ℕ
sum_over_nodes weight = fold-Stmt (ℕ → ℕ) (node_sum weight)

-- a node counts 2, and 1 more for each loop round it
abbrev pub units_inside : Stmt → ℕ → ℕ
units_inside = sum_over_nodes (λ loops. loops + 2)

-- how many nodes a statement has
abbrev pub nodes_of : Stmt → ℕ
nodes_of s = sum_over_nodes (λ loops. 1) s 0

-- the largest size that is told apart from larger ones
abbrev pub largest_size : ℕ
largest_size = 2 ^ 64 - 1

-- the size of a module, which stops at the largest
abbrev pub size_of : Module → ℕ
size_of m = min (units_inside m.body 0) largest_size

-- the deepest that a statement of a whole program may stand
abbrev pub deepest : ℕ
deepest = 2000

-- The size of a whole program, in which each call is replaced by its callee's body: the call is its own node
-- and those of its input arguments, and the body one deeper. It is the largest where a statement is too deep.
abbrev pub whole_size_of : Module → ℕ
whole_size_of m = if nat_lt deepest (depth_of m.body) then largest_size else size_of m
