-- The shape of a statement: its places and scopes, and of all else only how control may rest in it.
use Rattle.std.specs.Prelude.{ℕ, ◌+◌, map, Option, Some, None}
use Rattle.qz_syntax.specs.declared.statements.Stmt.{Stmt}
use Rattle.qz_syntax.specs.declared.statements.Stmt.TheOpen.{Stmt-F}
use Rattle.qz_syntax.specs.declared.statements.Stmt.TheFolds.{fold-Stmt}
use Rattle.qz_system.specs.declared.shape.Shape.{Shape}
use Rattle.qz_system.specs.declared.shape.Shape.TheVariants as shape

-- a suspend, with its hold place if it has one
abbrev pub suspend_shape : Option ℕ → Shape → Shape
suspend_shape None body = shape.Body body
suspend_shape (Some hold) body = shape.Hold hold body

-- one statement, with the shape of each part in its place. The cells of locals come after those of so many outputs
abbrev pub node_shape : ℕ → Stmt-F Shape → Shape
node_shape outputs Stmt-F.Nothing = shape.Leaf
node_shape outputs (Stmt-F.Assign target value) = shape.Leaf
node_shape outputs (Stmt-F.Delayed target value) = shape.Leaf
node_shape outputs (Stmt-F.Pause place) = shape.Place place
node_shape outputs (Stmt-F.Seq parts) = shape.Seq parts
node_shape outputs (Stmt-F.Par parts) = shape.Par parts
node_shape outputs (Stmt-F.If condition first second) = shape.If first second
node_shape outputs (Stmt-F.Loop number body condition) = shape.Body body
node_shape outputs (Stmt-F.Abort kind body condition) = shape.Body body
node_shape outputs (Stmt-F.Suspend kind hold body condition) = suspend_shape hold body
node_shape outputs (Stmt-F.Scope locals body) = shape.Scope (map (λ n. outputs + n) locals) body
node_shape outputs (Stmt-F.Call number proto arguments) = shape.Leaf
node_shape outputs (Stmt-F.Bind bindings body) = body

abbrev pub shape_of : ℕ → Stmt → Shape
shape_of outputs = fold-Stmt Shape (node_shape outputs)
