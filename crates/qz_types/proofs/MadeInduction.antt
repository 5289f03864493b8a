-- What each way of making keeps holds of each statement's maker.
use Rattle.std.proofs.Common.{◌≡◌, ℕ, ◌+◌, Bool, true, false, length, map, List, [], ◌∷◌, ◌++◌, Option, Some, None, refl, sym, ap, subst, ◌∙◌, length-append, arith, if◌then◌else◌, unwrap_or}
use Rattle.std.proofs.lemmas.List.{length-map}
use Rattle.qz_syntax.specs.declared.declarations.Decl.{Decl}
use Rattle.qz_syntax.specs.declared.names.Name.{Name}
use Rattle.qz_syntax.specs.declared.expressions.Expr.TheVariants as expr
use Rattle.qz_syntax.specs.declared.statements.Kind.{Kind}
use Rattle.qz_values.specs.Values.{yes}
use Rattle.qz_syntax.specs.declared.file_expressions.NameAt.{NameAt}
use Rattle.qz_syntax.specs.declared.file_expressions.FileExpr.{FileExpr}
use Rattle.qz_syntax.specs.declared.file_statements.Cond.{Cond}
use Rattle.qz_syntax.specs.declared.file_statements.Target.{Target}
use Rattle.qz_syntax.specs.declared.file_statements.FileBlock.{FileBlock, map-FileBlock, roll-FileBlock}
use Rattle.qz_syntax.specs.declared.file_statements.FileStmt.{FileStmt, map-FileStmt, roll-FileStmt}
use Rattle.qz_syntax.specs.declared.file_statements.FileStmt.TheOpen.{FileStmt-F, FileBlock-F}
use Rattle.qz_syntax.specs.declared.file_statements.FileStmt.TheFolds.{fold-FileBlock, fold-roll-FileStmt, fold-roll-FileBlock, ind-FileStmt}
use Rattle.qz_syntax.specs.declared.files.FileDecl.{FileDecl}
use Rattle.qz_syntax.specs.declared.files.FileFormal.{FileFormal}
use Rattle.qz_syntax.specs.declared.files.FileProto.{FileProto}
use Rattle.qz_types.specs.Meanings.{Meanings}
use Rattle.qz_types.specs.ArgumentFaults.{formals_of}
use Rattle.qz_types.specs.CoreDeclarations.{local_names, core_local, core_decl, core_decls}
use Rattle.qz_types.specs.CoreExpressions.{core_expression}
use Rattle.qz_types.specs.Makers.{Maker, Valued, always, plainly, pausing, repeating, branching, aborting, suspending, in_sequence, in_parallel}
use Rattle.qz_types.specs.CoreStatements.{holds, fails, label_name, assigned, doing_nothing, halting, awaiting, awaiting_now, whiling, strong, restarting, on_every, calling, in_scope, node_made, block_made, made}

-- a fact of each of some makers
abbrev pub Each : (Maker → Type 0) → List Maker → Type 0
Each P [] = Unit {0}
Each P (maker ∷ makers) = P maker × Each P makers

-- a fact that each way of making keeps in which names stand for the same variables
pub record Forms (P : Maker → Type 0) : Type 0 where
  pub at_nothing : P doing_nothing
  pub at_assigned : (target : Target) (value : Valued) → P (plainly (λ names. assigned target (value names) names))
  pub at_pausing : (label : Option Name) → P (pausing label)
  pub at_calling : (proto : ℕ) (formals : List FileFormal) (arguments : List FileExpr) → P (calling proto formals arguments)
  pub at_repeating : (body : Maker) (e : Valued) → P body → P (repeating body e)
  pub at_branching : (e : Valued) (first second : Maker) → P first → P second → P (branching e first second)
  pub at_aborting : (kind : Kind) (body : Maker) (e : Valued) → P body → P (aborting kind body e)
  pub at_suspending : (kind : Kind) (body : Maker) (e : Valued) → P body → P (suspending kind body e)
  pub at_sequence : (makers : List Maker) → Each P makers → P (in_sequence makers)
  pub at_parallel : (makers : List Maker) → Each P makers → P (in_parallel makers)

-- a fact that each way of making keeps
pub record Keeps (P : Maker → Type 0) : Type 0 where
  pub forms : Forms P
  pub at_scope : (locals : List NameAt) (decls : List Decl) (body : Maker) → length decls ≡ length locals → P body → P (in_scope locals decls body)

-- there are as many locals as names
pub as_many_locals : (decls : List FileDecl) → length (core_decls decls) ≡ length (local_names decls)
as_many_locals [] = refl
as_many_locals (decl ∷ decls) =
    length-append (core_decl decl) (core_decls decls)
    ∙ let e : length (core_decl decl) ≡ length decl.names = length-map decl.names (core_local decl) in
    omega (arith, as_many_locals decls, length-append decl.names (local_names decls))

module _ (P : Maker → Type 0) (k : Forms P) where
  pub keeps_halting : (label : Option NameAt) → P (halting label)
  keeps_halting label = k.at_repeating (pausing (label_name label)) always (k.at_pausing (label_name label))

  keeps_awaiting : (label : Option NameAt) (c : Cond) → P (awaiting label c)
  keeps_awaiting label c = k.at_repeating (pausing (label_name label)) (fails c) (k.at_pausing (label_name label))

  pub keeps_whiling : (e : Valued) (body : Maker) → P body → P (whiling e body)
  keeps_whiling e body b = k.at_branching e (repeating body e) doing_nothing (k.at_repeating body e b) k.at_nothing

  pub keeps_await : (immediate : Bool) (label : Option NameAt) (c : Cond) → P (if immediate then awaiting_now label c else awaiting label c)
  keeps_await true label c = keeps_whiling (fails c) (pausing (label_name label)) (k.at_pausing (label_name label))
  keeps_await false label c = keeps_awaiting label c

  pub keeps_every : (c : Cond) (body : Maker) → P body → P (on_every c body)
  keeps_every c body b =
      let inner = in_sequence (body ∷ (halting None ∷ [])) in
      k.at_sequence (awaiting None c ∷ (restarting c body ∷ [])) (
        keeps_awaiting None c,
        (
          k.at_repeating (aborting strong inner (holds c)) always
              (k.at_aborting strong inner (holds c) (k.at_sequence (body ∷ (halting None ∷ [])) (b, (keeps_halting None, tt)))),
          tt,
        ),
      )

module _ (P : Maker → Type 0) (all : Keeps P) where
  abbrev k : Forms P
  k = all.forms

  module _ (protos : List FileProto) (callees : Meanings ℕ) where
    abbrev makes : FileStmt → Maker
    makes = made protos callees

    abbrev makes_block : FileBlock → Maker
    makes_block = fold-FileBlock Maker Maker (node_made protos callees) block_made

    -- a statement, and a block, of whose makers the fact holds
    abbrev Stated : Type 0
    Stated = (s : FileStmt) × P (makes s)

    abbrev Blocked : Type 0
    Blocked = (b : FileBlock) × P (makes_block b)

    -- a node of statements and blocks alone
    abbrev bare : FileStmt-F Stated Blocked → FileStmt-F FileStmt FileBlock
    bare y = map-FileStmt Stated Blocked FileStmt FileBlock (λ (e : Stated). e.0) (λ (e : Blocked). e.0) y

    abbrev bare_block : FileBlock-F Stated Blocked → FileBlock-F FileStmt FileBlock
    bare_block y = map-FileBlock Stated Blocked FileStmt FileBlock (λ (e : Stated). e.0) (λ (e : Blocked). e.0) y

    -- the maker of a node, made of the makers of its parts
    abbrev remade : FileStmt-F Stated Blocked → Maker
    remade y = node_made protos callees (map-FileStmt FileStmt FileBlock Maker Maker makes makes_block (bare y))

    abbrev remade_block : FileBlock-F Stated Blocked → Maker
    remade_block y = block_made (map-FileBlock FileStmt FileBlock Maker Maker makes makes_block (bare_block y))

    keeps_node : (y : FileStmt-F Stated Blocked) → P (remade y)
    keeps_node FileStmt-F.Nothing = k.at_nothing
    keeps_node (FileStmt-F.Pause label) = k.at_pausing (label_name label)
    keeps_node (FileStmt-F.Halt label) = keeps_halting P k label
    keeps_node (FileStmt-F.Await label immediate condition) = keeps_await P k immediate label condition
    keeps_node (FileStmt-F.Assign target equals value) = k.at_assigned target (λ names. core_expression names value)
    keeps_node (FileStmt-F.Emit target) = k.at_assigned target (λ names. expr.Lit yes)
    keeps_node (FileStmt-F.Block block) = block.1
    keeps_node (FileStmt-F.If condition first None) = k.at_branching (holds condition) (makes first.0) doing_nothing first.1 k.at_nothing
    keeps_node (FileStmt-F.If condition first (Some second)) = k.at_branching (holds condition) (makes first.0) (makes second.0) first.1 second.1
    keeps_node (FileStmt-F.DoWhile body condition) = k.at_repeating (makes body.0) (holds condition) body.1
    keeps_node (FileStmt-F.While condition body) = keeps_whiling P k (holds condition) (makes body.0) body.1
    keeps_node (FileStmt-F.Loop body) = k.at_repeating (makes body.0) always body.1
    keeps_node (FileStmt-F.Every condition body) = keeps_every P k condition (makes body.0) body.1
    keeps_node (FileStmt-F.Abort kind body condition) = k.at_aborting kind (makes body.0) (holds condition) body.1
    keeps_node (FileStmt-F.Suspend kind body condition) = k.at_suspending kind (makes body.0) (holds condition) body.1
    keeps_node (FileStmt-F.Call callee arguments) =
        k.at_calling (unwrap_or (callees callee.name) 0) (unwrap_or (formals_of protos callees callee.name) []) arguments

    keeps_list : (list : List Stated) → Each P (map makes (map (λ (e : Stated). e.0) list))
    keeps_list [] = tt
    keeps_list (e ∷ list) = (e.1, keeps_list list)

    keeps_lists : (lists : List (List Stated)) → Each P (map in_sequence (map (map makes) (map (map (λ (e : Stated). e.0)) lists)))
    keeps_lists [] = tt
    keeps_lists (list ∷ lists) = (k.at_sequence (map makes (map (λ (e : Stated). e.0) list)) (keeps_list list), keeps_lists lists)

    keeps_block : (y : FileBlock-F Stated Blocked) → P (remade_block y)
    keeps_block y =
        all.at_scope (local_names y.decls) (core_decls y.decls) (in_parallel (map in_sequence (map (map makes) (map (map (λ (e : Stated). e.0)) y.lists))))
        (as_many_locals y.decls) (k.at_parallel (map in_sequence (map (map makes) (map (map (λ (e : Stated). e.0)) y.lists))) (keeps_lists y.lists))

    -- so it holds of each statement's maker
    pub kept : (s : FileStmt) → P (made protos callees s)
    unfolding made
    kept = ind-FileStmt (λ s. P (makes s)) (λ b. P (makes_block b))
        (λ x y is. subst (λ z. P (makes (roll-FileStmt z))) is
        (subst P (sym (fold-roll-FileStmt Maker Maker (node_made protos callees) block_made (bare y))) (keeps_node y)))
        (λ x y is. subst (λ z. P (makes_block (roll-FileBlock z))) is
        (subst P (sym (fold-roll-FileBlock Maker Maker (node_made protos callees) block_made (bare_block y))) (keeps_block y)))
