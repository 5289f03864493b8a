-- What makes each form of statement.
use Rattle.std.proofs.Common.{◌≡◌, ℕ, List, [], ◌∷◌, map, Option, Some, None, Bool, refl, sym, unwrap_or, if◌then◌else◌, ap, ◌∙◌}
use Rattle.qz_values.specs.Values.{yes}
use Rattle.qz_syntax.specs.declared.expressions.Expr.TheVariants as expr
use Rattle.qz_syntax.specs.declared.file_expressions.NameAt.{NameAt}
use Rattle.qz_syntax.specs.declared.file_expressions.FileExpr.{FileExpr}
use Rattle.qz_syntax.specs.declared.file_statements.Target.{Target}
use Rattle.qz_syntax.specs.declared.file_statements.Cond.{Cond}
use Rattle.qz_syntax.specs.declared.statements.Kind.{Kind}
use Rattle.qz_syntax.specs.declared.file_statements.FileBlock.{FileBlock}
use Rattle.qz_syntax.specs.declared.file_statements.FileStmt.{FileStmt}
use Rattle.qz_syntax.specs.declared.file_statements.FileStmt.TheVariants as stmt
use Rattle.qz_syntax.specs.declared.file_statements.FileStmt.TheOpen.{FileStmt-F}
use Rattle.qz_syntax.specs.declared.file_statements.FileStmt.TheFolds.{fold-roll-FileStmt, fold_out-FileBlock}
use Rattle.qz_syntax.specs.declared.files.FileProto.{FileProto}
use Rattle.qz_types.specs.Meanings.{Meanings}
use Rattle.qz_types.specs.ArgumentFaults.{formals_of}
use Rattle.qz_types.specs.CoreExpressions.{core_expression}
use Rattle.qz_types.specs.CoreDeclarations.{local_names, core_decls}
use Rattle.qz_types.specs.Makers.{Maker, always, plainly, pausing, repeating, branching, aborting, suspending, in_sequence, in_parallel}
use Rattle.qz_types.specs.CoreStatements.{holds, label_name, assigned, doing_nothing, halting, awaiting, awaiting_now, whiling, on_every, calling, in_scope, node_made, block_made, made}

map_twice : {A B C : Type 0} (g : B → C) (f : A → B) (xs : List A) → map g (map f xs) ≡ map (λ x. g (f x)) xs
map_twice g f [] = refl
map_twice g f (x ∷ xs) = ap (λ ys. g (f x) ∷ ys) (map_twice g f xs)

module _ (protos : List FileProto) (callees : Meanings ℕ) where
  pub made-Nothing : made protos callees stmt.Nothing ≡ doing_nothing
  unfolding made
  made-Nothing =
      ap (made protos callees) (sym stmt.rolls-Nothing) ∙ fold-roll-FileStmt Maker Maker (node_made protos callees) block_made FileStmt-F.Nothing

  pub made-Pause : (label : Option NameAt) → made protos callees (stmt.Pause label) ≡ pausing (label_name label)
  unfolding made
  made-Pause label =
      ap (made protos callees) (sym (stmt.rolls-Pause label)) ∙ fold-roll-FileStmt Maker Maker (node_made protos callees) block_made (FileStmt-F.Pause label)

  pub made-Halt : (label : Option NameAt) → made protos callees (stmt.Halt label) ≡ halting label
  unfolding made
  made-Halt label =
      ap (made protos callees) (sym (stmt.rolls-Halt label)) ∙ fold-roll-FileStmt Maker Maker (node_made protos callees) block_made (FileStmt-F.Halt label)

  pub made-Await : (label : Option NameAt) (immediate : Bool) (c : Cond) → made protos callees (stmt.Await label immediate c) ≡ (if immediate then awaiting_now label c else awaiting label c)
  unfolding made
  made-Await label immediate c =
      ap (made protos callees) (sym (stmt.rolls-Await label immediate c)) ∙ fold-roll-FileStmt Maker Maker (node_made protos callees) block_made (FileStmt-F.Await label immediate c)

  pub made-Assign : (target : Target) (equals : ℕ) (value : FileExpr) → made protos callees (stmt.Assign target equals value) ≡ plainly (λ names. assigned target (core_expression names value) names)
  unfolding made
  made-Assign target equals value =
      ap (made protos callees) (sym (stmt.rolls-Assign target equals value)) ∙ fold-roll-FileStmt Maker Maker (node_made protos callees) block_made (FileStmt-F.Assign target equals value)

  pub made-Emit : (target : Target) → made protos callees (stmt.Emit target) ≡ plainly (assigned target (expr.Lit yes))
  unfolding made
  made-Emit target =
      ap (made protos callees) (sym (stmt.rolls-Emit target)) ∙ fold-roll-FileStmt Maker Maker (node_made protos callees) block_made (FileStmt-F.Emit target)

  pub made-If : (c : Cond) (s : FileStmt) → made protos callees (stmt.If c s None) ≡ branching (holds c) (made protos callees s) doing_nothing
  unfolding made
  made-If c s =
      ap (made protos callees) (sym (stmt.rolls-If c s None)) ∙ fold-roll-FileStmt Maker Maker (node_made protos callees) block_made (FileStmt-F.If c s None)

  pub made-IfElse : (c : Cond) (s t : FileStmt) → made protos callees (stmt.If c s (Some t)) ≡ branching (holds c) (made protos callees s) (made protos callees t)
  unfolding made
  made-IfElse c s t =
      ap (made protos callees) (sym (stmt.rolls-If c s (Some t))) ∙ fold-roll-FileStmt Maker Maker (node_made protos callees) block_made (FileStmt-F.If c s (Some t))

  pub made-DoWhile : (s : FileStmt) (c : Cond) → made protos callees (stmt.DoWhile s c) ≡ repeating (made protos callees s) (holds c)
  unfolding made
  made-DoWhile s c =
      ap (made protos callees) (sym (stmt.rolls-DoWhile s c)) ∙ fold-roll-FileStmt Maker Maker (node_made protos callees) block_made (FileStmt-F.DoWhile s c)

  pub made-While : (c : Cond) (s : FileStmt) → made protos callees (stmt.While c s) ≡ whiling (holds c) (made protos callees s)
  unfolding made
  made-While c s =
      ap (made protos callees) (sym (stmt.rolls-While c s)) ∙ fold-roll-FileStmt Maker Maker (node_made protos callees) block_made (FileStmt-F.While c s)

  pub made-Loop : (s : FileStmt) → made protos callees (stmt.Loop s) ≡ repeating (made protos callees s) always
  unfolding made
  made-Loop s =
      ap (made protos callees) (sym (stmt.rolls-Loop s)) ∙ fold-roll-FileStmt Maker Maker (node_made protos callees) block_made (FileStmt-F.Loop s)

  pub made-Every : (c : Cond) (s : FileStmt) → made protos callees (stmt.Every c s) ≡ on_every c (made protos callees s)
  unfolding made
  made-Every c s =
      ap (made protos callees) (sym (stmt.rolls-Every c s)) ∙ fold-roll-FileStmt Maker Maker (node_made protos callees) block_made (FileStmt-F.Every c s)

  pub made-Abort : (kind : Kind) (s : FileStmt) (c : Cond) → made protos callees (stmt.Abort kind s c) ≡ aborting kind (made protos callees s) (holds c)
  unfolding made
  made-Abort kind s c =
      ap (made protos callees) (sym (stmt.rolls-Abort kind s c)) ∙ fold-roll-FileStmt Maker Maker (node_made protos callees) block_made (FileStmt-F.Abort kind s c)

  pub made-Suspend : (kind : Kind) (s : FileStmt) (c : Cond) → made protos callees (stmt.Suspend kind s c) ≡ suspending kind (made protos callees s) (holds c)
  unfolding made
  made-Suspend kind s c =
      ap (made protos callees) (sym (stmt.rolls-Suspend kind s c)) ∙ fold-roll-FileStmt Maker Maker (node_made protos callees) block_made (FileStmt-F.Suspend kind s c)

  pub made-Call : (callee : NameAt) (arguments : List FileExpr) → made protos callees (stmt.Call callee arguments) ≡ calling (unwrap_or (callees callee.name) 0) (unwrap_or (formals_of protos callees callee.name) []) arguments
  unfolding made
  made-Call callee arguments =
      ap (made protos callees) (sym (stmt.rolls-Call callee arguments)) ∙ fold-roll-FileStmt Maker Maker (node_made protos callees) block_made (FileStmt-F.Call callee arguments)

  pub made-Block : (block : FileBlock) → made protos callees (stmt.Block block)
      ≡ in_scope (local_names block.decls) (core_decls block.decls) (in_parallel (map (λ list. in_sequence (map (made protos callees) list)) block.lists))
  unfolding made
  made-Block block =
      ap (made protos callees) (sym (stmt.rolls-Block block)) ∙ fold-roll-FileStmt Maker Maker (node_made protos callees) block_made (FileStmt-F.Block block)
      ∙ fold_out-FileBlock Maker Maker (node_made protos callees) block_made block
      ∙ ap (λ makers. in_scope (local_names block.decls) (core_decls block.decls) (in_parallel makers)) (map_twice in_sequence (map (made protos callees)) block.lists)

-- what makes each form
pub ruleset made_forms = (made-Nothing, made-Pause, made-Halt, made-Await, made-Assign, made-Emit, made-If, made-IfElse, made-DoWhile, made-While, made-Loop, made-Every, made-Abort, made-Suspend, made-Call)
