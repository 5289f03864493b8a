-- How deep the core tree is, by the levels of the file.
use Rattle.std.proofs.Common.{◌≡◌, ℕ, zero, suc, ◌+◌, ◌*◌, ◌≤◌, max, fold, Bool, true, false, length, map, List, [], ◌∷◌, Option, Some, None, refl, sym, ap, subst, ◌∙◌, arith, unwrap_or, if◌then◌else◌}
use Rattle.std.specs.List.{range_with_len}
use Rattle.qz_values.specs.Values.{yes}
use Rattle.qz_syntax.specs.declared.declarations.Decl.{Decl}
use Rattle.qz_syntax.specs.declared.names.Name.{Name}
use Rattle.qz_syntax.specs.declared.expressions.Var.{Var}
use Rattle.qz_syntax.specs.declared.expressions.Expr.{Expr}
use Rattle.qz_syntax.specs.declared.expressions.Expr.TheVariants as expr
use Rattle.qz_syntax.specs.declared.statements.Kind.{Kind}
use Rattle.qz_syntax.specs.declared.statements.Stmt.{Stmt}
use Rattle.qz_syntax.specs.declared.statements.Stmt.TheVariants as core
use Rattle.qz_syntax.specs.declared.statements.Stmt.TheOpen.{Stmt-F}
use Rattle.qz_syntax.specs.declared.file_expressions.NameAt.{NameAt}
use Rattle.qz_syntax.specs.declared.file_expressions.FileExpr.{FileExpr}
use Rattle.qz_syntax.specs.declared.file_statements.Cond.{Cond}
use Rattle.qz_syntax.specs.declared.file_statements.Target.{Target}
use Rattle.qz_syntax.specs.declared.file_statements.FileBlock.{FileBlock, map-FileBlock, roll-FileBlock}
use Rattle.qz_syntax.specs.declared.file_statements.FileStmt.{FileStmt, map-FileStmt, roll-FileStmt}
use Rattle.qz_syntax.specs.declared.file_statements.FileStmt.TheOpen.{FileStmt-F, FileBlock-F}
use Rattle.qz_syntax.specs.declared.file_statements.FileStmt.TheFolds.{fold-FileBlock, fold-roll-FileStmt, fold-roll-FileBlock, ind-FileStmt}
use Rattle.qz_syntax.specs.declared.files.FileFormal.{FileFormal}
use Rattle.qz_syntax.specs.declared.files.FileProto.{FileProto}
use Rattle.qz_syntax.specs.Numbers.{depth_of, parts_of}
use Rattle.qz_syntax.proofs.Equations.{fold-Nothing, fold-Assign, fold-Delayed, fold-Pause, fold-Seq, fold-Par, fold-If, fold-Loop, fold-Abort, fold-Suspend, fold-Scope, fold-Call}
use Rattle.qz_types.specs.declared.numbers.Numbers.{Numbers}
use Rattle.qz_types.specs.Meanings.{Meanings}
use Rattle.qz_types.specs.Declarations.{declared}
use Rattle.qz_types.specs.ArgumentFaults.{formals_of}
use Rattle.qz_types.specs.CoreDeclarations.{local_numbers, local_names, core_decls}
use Rattle.qz_types.specs.CoreExpressions.{core_variable, core_expression}
use Rattle.qz_types.specs.Levels.{most, node_levels, block_levels, levels_of}
use Rattle.qz_types.specs.Makers.{Maker, Valued, always, plainly, with_loop, with_locals, hold_place, with_hold_place, pausing, repeating, branching, aborting, suspending, all_made, listed, in_sequence, in_parallel}
use Rattle.qz_types.specs.CoreStatements.{holds, fails, label_name, assigned, doing_nothing, halting, awaiting, awaiting_now, whiling, strong, restarting, on_every, calling, core_arguments, in_scope, scoped, node_made, block_made, made}
use Rattle.qz_types.proofs.MadeInduction.{Each}

abbrev step : Stmt-F ℕ → ℕ
step node = 1 + fold max 0 (parts_of node)

-- what is made is less deep than this
pub record Below (deep : ℕ) (maker : Maker) : Type 0 where
  pub below : (names : Meanings Var) (n : Numbers) → depth_of (maker names n).tree + 1 ≤ deep

below_more : (d e : ℕ) (maker : Maker) → d ≤ e → Below d maker → Below e maker
below_more d e maker h b = record { below = λ names n. let x = b.below names n in omega arith }

below_nothing : Below 2 doing_nothing
below_nothing = record { below = λ names n. let e : depth_of core.Nothing ≡ 1 + 0 = fold-Nothing ℕ step in omega arith }

depth_assigned : (next : Bool) (v : Var) (e : Expr) → depth_of (if next then core.Delayed v e else core.Assign v e) ≡ 1 + 0
depth_assigned true v e = fold-Delayed ℕ step v e
depth_assigned false v e = fold-Assign ℕ step v e

below_assigned : (target : Target) (value : Valued) → Below 2 (plainly (λ names. assigned target (value names) names))
below_assigned target value = record {
  below = λ names n. let e = depth_assigned target.next (core_variable names target.name.name) (value names) in omega (arith, e);
}

below_pausing : (label : Option Name) → Below 2 (pausing label)
below_pausing label = record { below = λ names n. let e : depth_of (core.Pause (length n.labels)) ≡ 1 + 0 = fold-Pause ℕ step (length n.labels) in omega arith }

below_calling : (proto : ℕ) (formals : List FileFormal) (arguments : List FileExpr) → Below 2 (calling proto formals arguments)
below_calling proto formals arguments = record {
  below = λ names n. let e : depth_of (core.Call n.calls proto (core_arguments names formals arguments)) ≡ 1 + 0 = fold-Call ℕ step n.calls proto (core_arguments names formals arguments) in omega arith;
}

below_repeating : (d : ℕ) (body : Maker) (e : Valued) → Below d body → Below (d + 1) (repeating body e)
below_repeating d body e b = record {
  below = λ names n.
      let inner = (body names (with_loop n)).tree in
      let f : depth_of (core.Loop n.loops inner (e names)) ≡ 1 + max 0 (depth_of inner) = fold-Loop ℕ step n.loops inner (e names) in
      let x = b.below names (with_loop n) in
      omega arith;
}

below_branching : (d : ℕ) (e : Valued) (first second : Maker) → Below d first → Below d second → Below (d + 1) (branching e first second)
below_branching d e first second a b = record {
  below = λ names n.
      let s = (first names n).tree in
      let m = (first names n).next in
      let t = (second names m).tree in
      let f : depth_of (core.If (e names) s t) ≡ 1 + max (max 0 (depth_of s)) (depth_of t) = fold-If ℕ step (e names) s t in
      let x = a.below names n in
      let y = b.below names m in
      omega arith;
}

below_aborting : (d : ℕ) (kind : Kind) (body : Maker) (e : Valued) → Below d body → Below (d + 1) (aborting kind body e)
below_aborting d kind body e b = record {
  below = λ names n.
      let inner = (body names n).tree in
      let f : depth_of (core.Abort kind inner (e names)) ≡ 1 + max 0 (depth_of inner) = fold-Abort ℕ step kind inner (e names) in
      let x = b.below names n in
      omega arith;
}

below_suspending : (d : ℕ) (kind : Kind) (body : Maker) (e : Valued) → Below d body → Below (d + 1) (suspending kind body e)
below_suspending d kind body e b = record {
  below = λ names n.
      let m = with_hold_place kind n in
      let inner = (body names m).tree in
      let f : depth_of (core.Suspend kind (hold_place kind n) inner (e names)) ≡ 1 + max 0 (depth_of inner) = fold-Suspend ℕ step kind (hold_place kind n) inner (e names) in
      let x = b.below names m in
      omega arith;
}

-- the most of the depths of some parts
most_below : (makers : List Maker) (d a : ℕ) → a + 1 ≤ d → Each (Below d) makers → (names : Meanings Var) (n : Numbers)
    → fold max a (map depth_of (all_made makers names n).trees) + 1 ≤ d
most_below [] d a h each names n = h
most_below (maker ∷ makers) d a h each names n =
    let x = each.0.below names n in
    most_below makers d (max a (depth_of (maker names n).tree)) (omega arith) each.1 names (maker names n).next

depth_listed : (together : List Stmt → Stmt) → ((parts : List Stmt) → depth_of (together parts) ≡ 1 + fold max 0 (map depth_of parts))
    → (trees : List Stmt) → depth_of (listed together trees) ≤ 1 + fold max 0 (map depth_of trees)
depth_listed together h [] = let e : depth_of core.Nothing ≡ 1 + 0 = fold-Nothing ℕ step in omega arith
depth_listed together h (only ∷ []) = omega arith
depth_listed together h (first ∷ (second ∷ others)) = let e = h (first ∷ (second ∷ others)) in omega (arith, e)

below_sequence : (d : ℕ) (makers : List Maker) → 1 ≤ d → Each (Below d) makers → Below (d + 1) (in_sequence makers)
below_sequence d makers h each = record {
  below = λ names n.
      let trees = (all_made makers names n).trees in
      let e : depth_of (listed core.Seq trees) ≤ 1 + fold max 0 (map depth_of trees) = depth_listed core.Seq (λ parts. fold-Seq ℕ step parts) trees in
      let f : fold max 0 (map depth_of trees) + 1 ≤ d = most_below makers d 0 (omega arith) each names n in
      omega arith;
}

below_parallel : (d : ℕ) (makers : List Maker) → 1 ≤ d → Each (Below d) makers → Below (d + 1) (in_parallel makers)
below_parallel d makers h each = record {
  below = λ names n.
      let trees = (all_made makers names n).trees in
      let e : depth_of (listed core.Par trees) ≤ 1 + fold max 0 (map depth_of trees) = depth_listed core.Par (λ parts. fold-Par ℕ step parts) trees in
      let f : fold max 0 (map depth_of trees) + 1 ≤ d = most_below makers d 0 (omega arith) each names n in
      omega arith;
}

depth_scoped : (locals : List ℕ) (body : Stmt) → depth_of (scoped locals body) ≤ 1 + depth_of body
depth_scoped [] body = omega arith
depth_scoped (local ∷ locals) body =
    let f : depth_of (core.Scope (local ∷ locals) body) ≡ 1 + max 0 (depth_of body) = fold-Scope ℕ step (local ∷ locals) body in
    omega arith

below_scope : (d : ℕ) (locals : List NameAt) (decls : List Decl) (body : Maker) → Below d body → Below (d + 1) (in_scope locals decls body)
below_scope d locals decls body b = record {
  below = λ names n.
      let inner = declared (local_numbers (length n.decls) locals) names in
      let tree = (body inner (with_locals n decls)).tree in
      let e = depth_scoped (range_with_len (length n.decls) (length locals)) tree in
      let x = b.below inner (with_locals n decls) in
      omega (arith, e, x);
}

below_halting : (label : Option NameAt) → Below 3 (halting label)
below_halting label = below_repeating 2 (pausing (label_name label)) always (below_pausing (label_name label))

below_awaiting : (label : Option NameAt) (c : Cond) → Below 3 (awaiting label c)
below_awaiting label c = below_repeating 2 (pausing (label_name label)) (fails c) (below_pausing (label_name label))

below_whiling : (d : ℕ) (e : Valued) (body : Maker) → 1 ≤ d → Below d body → Below (d + 2) (whiling e body)
below_whiling d e body h b =
    below_more (d + 1 + 1) (d + 2) (whiling e body) (omega arith)
    (below_branching (d + 1) e (repeating body e) doing_nothing (below_repeating d body e b) (below_more 2 (d + 1) doing_nothing (omega arith) below_nothing))

below_await : (immediate : Bool) (label : Option NameAt) (c : Cond) → Below 4 (if immediate then awaiting_now label c else awaiting label c)
below_await true label c = below_whiling 2 (fails c) (pausing (label_name label)) (omega arith) (below_pausing (label_name label))
below_await false label c = below_more 3 4 (awaiting label c) (omega arith) (below_awaiting label c)

below_every : (d : ℕ) (c : Cond) (body : Maker) → 3 ≤ d → Below d body → Below (d + 4) (on_every c body)
below_every d c body h b =
    let inner = in_sequence (body ∷ (halting None ∷ [])) in
    let x : Below (d + 1) inner = below_sequence d (body ∷ (halting None ∷ [])) (omega arith) (b, (below_more 3 d (halting None) (omega arith) (below_halting None), tt)) in
    let y : Below (d + 1 + 1 + 1) (restarting c body) =
    below_repeating (d + 1 + 1) (aborting strong inner (holds c)) always (below_aborting (d + 1) strong inner (holds c) x) in
    below_more (d + 3 + 1) (d + 4) (on_every c body) (omega arith)
    (below_sequence (d + 3) (awaiting None c ∷ (restarting c body ∷ [])) (omega arith) (
      below_more 3 (d + 3) (awaiting None c) (omega arith) (below_awaiting None c),
      (below_more (d + 1 + 1 + 1) (d + 3) (restarting c body) (omega arith) y, tt),
    ))

-- four times the levels are more than the depth
pub record Deep (levels : ℕ) (maker : Maker) : Type 0 where
  pub some : 1 ≤ levels
  pub below : Below (4 * levels) maker

deep : (d levels : ℕ) (maker : Maker) → 1 ≤ levels → d ≤ 4 * levels → Below d maker → Deep levels maker
deep d levels maker h i b = record { some = h; below = below_more d (4 * levels) maker i b }

module _ (protos : List FileProto) (callees : Meanings ℕ) where
  abbrev makes : FileStmt → Maker
  makes = made protos callees

  abbrev makes_block : FileBlock → Maker
  makes_block = fold-FileBlock Maker Maker (node_made protos callees) block_made

  abbrev block_levels_of : FileBlock → ℕ
  block_levels_of = fold-FileBlock ℕ ℕ node_levels block_levels

  abbrev Stated : Type 0
  Stated = (s : FileStmt) × Deep (levels_of s) (makes s)

  abbrev Blocked : Type 0
  Blocked = (b : FileBlock) × Deep (block_levels_of b) (makes_block b)

  -- a node of statements and blocks alone
  abbrev bare : FileStmt-F Stated Blocked → FileStmt-F FileStmt FileBlock
  bare y = map-FileStmt Stated Blocked FileStmt FileBlock (λ (e : Stated). e.0) (λ (e : Blocked). e.0) y

  abbrev bare_block : FileBlock-F Stated Blocked → FileBlock-F FileStmt FileBlock
  bare_block y = map-FileBlock Stated Blocked FileStmt FileBlock (λ (e : Stated). e.0) (λ (e : Blocked). e.0) y

  abbrev remade : FileStmt-F Stated Blocked → Maker
  remade y = node_made protos callees (map-FileStmt FileStmt FileBlock Maker Maker makes makes_block (bare y))

  abbrev levels : FileStmt-F Stated Blocked → ℕ
  levels y = node_levels (map-FileStmt FileStmt FileBlock ℕ ℕ levels_of block_levels_of (bare y))

  deep_node : (y : FileStmt-F Stated Blocked) → Deep (levels y) (remade y)
  deep_node FileStmt-F.Nothing = deep 2 1 doing_nothing (omega arith) (omega arith) below_nothing
  deep_node (FileStmt-F.Pause label) = deep 2 1 (pausing (label_name label)) (omega arith) (omega arith) (below_pausing (label_name label))
  deep_node (FileStmt-F.Halt label) = deep 3 1 (halting label) (omega arith) (omega arith) (below_halting label)
  deep_node (FileStmt-F.Await label immediate condition) =
      deep 4 1 (if immediate then awaiting_now label condition else awaiting label condition) (omega arith) (omega arith) (below_await immediate label condition)
  deep_node (FileStmt-F.Assign target equals value) =
      deep 2 1 (plainly (λ names. assigned target (core_expression names value) names)) (omega arith) (omega arith) (below_assigned target (λ names. core_expression names value))
  deep_node (FileStmt-F.Emit target) =
      deep 2 1 (plainly (assigned target (expr.Lit yes))) (omega arith) (omega arith) (below_assigned target (λ names. expr.Lit yes))
  deep_node (FileStmt-F.Block block) = block.1
  deep_node (FileStmt-F.If condition first None) =
      let x = first.1.some in
      deep (4 * levels_of first.0 + 1) (1 + max (levels_of first.0) 0) (branching (holds condition) (makes first.0) doing_nothing) (omega arith) (omega arith)
      (below_branching (4 * levels_of first.0) (holds condition) (makes first.0) doing_nothing first.1.below (below_more 2 (4 * levels_of first.0) doing_nothing (omega arith) below_nothing))
  deep_node (FileStmt-F.If condition first (Some second)) =
      let a = levels_of first.0 in
      let b = levels_of second.0 in
      let m = max a b in
      let x = first.1.some in
      deep (4 * m + 1) (1 + m) (branching (holds condition) (makes first.0) (makes second.0)) (omega arith) (omega arith)
      (below_branching (4 * m) (holds condition) (makes first.0) (makes second.0)
      (below_more (4 * a) (4 * m) (makes first.0) (omega arith) first.1.below) (below_more (4 * b) (4 * m) (makes second.0) (omega arith) second.1.below))
  deep_node (FileStmt-F.DoWhile body condition) =
      deep (4 * levels_of body.0 + 1) (1 + levels_of body.0) (repeating (makes body.0) (holds condition)) (omega arith) (omega arith)
      (below_repeating (4 * levels_of body.0) (makes body.0) (holds condition) body.1.below)
  deep_node (FileStmt-F.While condition body) =
      let x = body.1.some in
      deep (4 * levels_of body.0 + 2) (1 + levels_of body.0) (whiling (holds condition) (makes body.0)) (omega arith) (omega arith)
      (below_whiling (4 * levels_of body.0) (holds condition) (makes body.0) (omega arith) body.1.below)
  deep_node (FileStmt-F.Loop body) =
      deep (4 * levels_of body.0 + 1) (1 + levels_of body.0) (repeating (makes body.0) always) (omega arith) (omega arith)
      (below_repeating (4 * levels_of body.0) (makes body.0) always body.1.below)
  deep_node (FileStmt-F.Every condition body) =
      let x = body.1.some in
      deep (4 * levels_of body.0 + 4) (1 + levels_of body.0) (on_every condition (makes body.0)) (omega arith) (omega arith)
      (below_every (4 * levels_of body.0) condition (makes body.0) (omega arith) body.1.below)
  deep_node (FileStmt-F.Abort kind body condition) =
      deep (4 * levels_of body.0 + 1) (1 + levels_of body.0) (aborting kind (makes body.0) (holds condition)) (omega arith) (omega arith)
      (below_aborting (4 * levels_of body.0) kind (makes body.0) (holds condition) body.1.below)
  deep_node (FileStmt-F.Suspend kind body condition) =
      deep (4 * levels_of body.0 + 1) (1 + levels_of body.0) (suspending kind (makes body.0) (holds condition)) (omega arith) (omega arith)
      (below_suspending (4 * levels_of body.0) kind (makes body.0) (holds condition) body.1.below)
  deep_node (FileStmt-F.Call callee arguments) =
      deep 2 1 (calling (unwrap_or (callees callee.name) 0) (unwrap_or (formals_of protos callees callee.name) []) arguments) (omega arith) (omega arith)
      (below_calling (unwrap_or (callees callee.name) 0) (unwrap_or (formals_of protos callees callee.name) []) arguments)

  most_from : (xs : List ℕ) (a b : ℕ) → 4 * fold max a xs ≤ b → 4 * a ≤ b
  most_from [] a b h = h
  most_from (x ∷ xs) a b h = let e = most_from xs (max a x) b h in omega arith

  deep_list : (list : List Stated) (a b : ℕ) → 4 * fold max a (map levels_of (map (λ (e : Stated). e.0) list)) ≤ b → Each (Below b) (map makes (map (λ (e : Stated). e.0) list))
  deep_list [] a b h = tt
  deep_list (e ∷ list) a b h =
      let x = most_from (map levels_of (map (λ (e : Stated). e.0) list)) (max a (levels_of e.0)) b h in
      (below_more (4 * levels_of e.0) b (makes e.0) (omega arith) e.1.below, deep_list list (max a (levels_of e.0)) b h)

  deep_lists : (lists : List (List Stated)) (a b : ℕ) → 4 * fold max a (map most (map (map levels_of) (map (map (λ (e : Stated). e.0)) lists))) ≤ b → 1 ≤ b
      → Each (Below (b + 1)) (map in_sequence (map (map makes) (map (map (λ (e : Stated). e.0)) lists)))
  deep_lists [] a b h i = tt
  deep_lists (list ∷ lists) a b h i =
      let m = most (map levels_of (map (λ (e : Stated). e.0) list)) in
      let x = most_from (map most (map (map levels_of) (map (map (λ (e : Stated). e.0)) lists))) (max a m) b h in
      (below_sequence b (map makes (map (λ (e : Stated). e.0) list)) i (deep_list list 0 b (omega arith)), deep_lists lists (max a m) b h i)

  deep_block : (y : FileBlock-F Stated Blocked)
      → Deep (block_levels (map-FileBlock FileStmt FileBlock ℕ ℕ levels_of block_levels_of (bare_block y)))
      (block_made (map-FileBlock FileStmt FileBlock Maker Maker makes makes_block (bare_block y)))
  deep_block y =
      let lists = map in_sequence (map (map makes) (map (map (λ (e : Stated). e.0)) y.lists)) in
      let m = most (map most (map (map levels_of) (map (map (λ (e : Stated). e.0)) y.lists))) in
      let b = max 1 (4 * m) in
      deep (b + 1 + 1 + 1) (1 + m) (in_scope (local_names y.decls) (core_decls y.decls) (in_parallel lists)) (omega arith) (omega arith)
      (below_scope (b + 1 + 1) (local_names y.decls) (core_decls y.decls) (in_parallel lists)
      (below_parallel (b + 1) lists (omega arith) (deep_lists y.lists 0 b (omega arith) (omega arith))))

  abbrev Claim : FileStmt → Type 0
  Claim s = Deep (levels_of s) (makes s)

  abbrev BlockClaim : FileBlock → Type 0
  BlockClaim b = Deep (block_levels_of b) (makes_block b)

  roll_deep : (x : FileStmt-F FileStmt FileBlock) → Deep (node_levels (map-FileStmt FileStmt FileBlock ℕ ℕ levels_of block_levels_of x))
      (node_made protos callees (map-FileStmt FileStmt FileBlock Maker Maker makes makes_block x)) → Claim (roll-FileStmt x)
  unfolding made
  roll_deep x h =
      subst (λ l. Deep l (makes (roll-FileStmt x))) (sym (fold-roll-FileStmt ℕ ℕ node_levels block_levels x))
      (subst (λ m. Deep (node_levels (map-FileStmt FileStmt FileBlock ℕ ℕ levels_of block_levels_of x)) m)
      (sym (fold-roll-FileStmt Maker Maker (node_made protos callees) block_made x)) h)

  roll_deep_block : (x : FileBlock-F FileStmt FileBlock) → Deep (block_levels (map-FileBlock FileStmt FileBlock ℕ ℕ levels_of block_levels_of x))
      (block_made (map-FileBlock FileStmt FileBlock Maker Maker makes makes_block x)) → BlockClaim (roll-FileBlock x)
  unfolding made
  roll_deep_block x h =
      subst (λ l. Deep l (makes_block (roll-FileBlock x))) (sym (fold-roll-FileBlock ℕ ℕ node_levels block_levels x))
      (subst (λ m. Deep (block_levels (map-FileBlock FileStmt FileBlock ℕ ℕ levels_of block_levels_of x)) m)
      (sym (fold-roll-FileBlock Maker Maker (node_made protos callees) block_made x)) h)

  -- so each statement is as deep as its levels allow
  pub deep_statement : (s : FileStmt) → Deep (levels_of s) (made protos callees s)
  deep_statement = ind-FileStmt Claim BlockClaim
      (λ x y is. subst (λ z. Claim (roll-FileStmt z)) is (roll_deep (bare y) (deep_node y)))
      (λ x y is. subst (λ z. BlockClaim (roll-FileBlock z)) is (roll_deep_block (bare_block y) (deep_block y)))
