-- What taking the results of a statement's parts leaves of the statement.
use Rattle.std.proofs.Common.{◌≡◌, ℕ, ◌+◌, ◌≤◌, map, refl, arith}
use Rattle.qz_syntax.specs.declared.statements.Stmt.{map-Stmt}
use Rattle.qz_syntax.specs.declared.statements.Stmt.TheOpen.{Stmt-F}
use Rattle.qz_syntax.specs.Numbers.{parts_of}
use Rattle.qz_syntax.specs.Sizes.{own_nodes, loops_inside}

pub parts_of-map : (A B : Type 0) (f : A → B) (node : Stmt-F A) → parts_of (map-Stmt A B f node) ≡ map f (parts_of node)
parts_of-map A B f Stmt-F.Nothing = refl
parts_of-map A B f (Stmt-F.Assign target value) = refl
parts_of-map A B f (Stmt-F.Delayed target value) = refl
parts_of-map A B f (Stmt-F.Pause place) = refl
parts_of-map A B f (Stmt-F.Seq parts) = refl
parts_of-map A B f (Stmt-F.Par parts) = refl
parts_of-map A B f (Stmt-F.If condition first second) = refl
parts_of-map A B f (Stmt-F.Loop number body condition) = refl
parts_of-map A B f (Stmt-F.Abort kind body condition) = refl
parts_of-map A B f (Stmt-F.Suspend kind hold body condition) = refl
parts_of-map A B f (Stmt-F.Scope locals body) = refl
parts_of-map A B f (Stmt-F.Call number proto arguments) = refl
parts_of-map A B f (Stmt-F.Bind bindings body) = refl

pub own_nodes-map : (A B : Type 0) (f : A → B) (node : Stmt-F A) → own_nodes (map-Stmt A B f node) ≡ own_nodes node
own_nodes-map A B f Stmt-F.Nothing = refl
own_nodes-map A B f (Stmt-F.Assign target value) = refl
own_nodes-map A B f (Stmt-F.Delayed target value) = refl
own_nodes-map A B f (Stmt-F.Pause place) = refl
own_nodes-map A B f (Stmt-F.Seq parts) = refl
own_nodes-map A B f (Stmt-F.Par parts) = refl
own_nodes-map A B f (Stmt-F.If condition first second) = refl
own_nodes-map A B f (Stmt-F.Loop number body condition) = refl
own_nodes-map A B f (Stmt-F.Abort kind body condition) = refl
own_nodes-map A B f (Stmt-F.Suspend kind hold body condition) = refl
own_nodes-map A B f (Stmt-F.Scope locals body) = refl
own_nodes-map A B f (Stmt-F.Call number proto arguments) = refl
own_nodes-map A B f (Stmt-F.Bind bindings body) = refl

pub loops_inside-map : (A B : Type 0) (f : A → B) (node : Stmt-F A) (loops : ℕ) → loops_inside (map-Stmt A B f node) loops ≡ loops_inside node loops
loops_inside-map A B f (Stmt-F.Loop number body condition) loops = refl
loops_inside-map A B f Stmt-F.Nothing loops = refl
loops_inside-map A B f (Stmt-F.Assign target value) loops = refl
loops_inside-map A B f (Stmt-F.Delayed target value) loops = refl
loops_inside-map A B f (Stmt-F.Pause place) loops = refl
loops_inside-map A B f (Stmt-F.Seq parts) loops = refl
loops_inside-map A B f (Stmt-F.Par parts) loops = refl
loops_inside-map A B f (Stmt-F.If condition first second) loops = refl
loops_inside-map A B f (Stmt-F.Abort kind body condition) loops = refl
loops_inside-map A B f (Stmt-F.Suspend kind hold body condition) loops = refl
loops_inside-map A B f (Stmt-F.Scope locals body) loops = refl
loops_inside-map A B f (Stmt-F.Call number proto arguments) loops = refl
loops_inside-map A B f (Stmt-F.Bind bindings body) loops = refl

pub own_nodes_pos : {A : Type 0} (node : Stmt-F A) → 1 ≤ own_nodes node
own_nodes_pos Stmt-F.Nothing = omega arith
own_nodes_pos (Stmt-F.Assign target value) = omega arith
own_nodes_pos (Stmt-F.Delayed target value) = omega arith
own_nodes_pos (Stmt-F.Pause place) = omega arith
own_nodes_pos (Stmt-F.Seq parts) = omega arith
own_nodes_pos (Stmt-F.Par parts) = omega arith
own_nodes_pos (Stmt-F.If condition first second) = omega arith
own_nodes_pos (Stmt-F.Loop number body condition) = omega arith
own_nodes_pos (Stmt-F.Abort kind body condition) = omega arith
own_nodes_pos (Stmt-F.Suspend kind hold body condition) = omega arith
own_nodes_pos (Stmt-F.Scope locals body) = omega arith
own_nodes_pos (Stmt-F.Call number proto arguments) = omega arith
own_nodes_pos (Stmt-F.Bind bindings body) = omega arith

pub loops_inside-le : {A : Type 0} (node : Stmt-F A) (loops : ℕ) → loops_inside node loops ≤ loops + 1
loops_inside-le (Stmt-F.Loop number body condition) loops = omega arith
loops_inside-le Stmt-F.Nothing loops = omega arith
loops_inside-le (Stmt-F.Assign target value) loops = omega arith
loops_inside-le (Stmt-F.Delayed target value) loops = omega arith
loops_inside-le (Stmt-F.Pause place) loops = omega arith
loops_inside-le (Stmt-F.Seq parts) loops = omega arith
loops_inside-le (Stmt-F.Par parts) loops = omega arith
loops_inside-le (Stmt-F.If condition first second) loops = omega arith
loops_inside-le (Stmt-F.Abort kind body condition) loops = omega arith
loops_inside-le (Stmt-F.Suspend kind hold body condition) loops = omega arith
loops_inside-le (Stmt-F.Scope locals body) loops = omega arith
loops_inside-le (Stmt-F.Call number proto arguments) loops = omega arith
loops_inside-le (Stmt-F.Bind bindings body) loops = omega arith
