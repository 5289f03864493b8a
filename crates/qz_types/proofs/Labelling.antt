-- The labels of the core tree are those of the file, in their order.
use Rattle.std.proofs.Common.{◌≡◌, ℕ, Bool, true, false, length, map, List, [], ◌∷◌, ◌++◌, Option, Some, None, refl, sym, ap, ap₂, subst, ◌∙◌, append-nil, append_assoc, unwrap_or, if◌then◌else◌}
use Rattle.std.proofs.lemmas.List.{map-append}
use Rattle.std.specs.List.{flat_map}
use Rattle.std.specs.Option.{option_to_list}
use Rattle.qz_values.specs.Values.{yes}
use Rattle.qz_syntax.specs.declared.declarations.Decl.{Decl}
use Rattle.qz_syntax.specs.declared.names.Name.{Name}
use Rattle.qz_syntax.specs.declared.expressions.Expr.TheVariants as expr
use Rattle.qz_syntax.specs.declared.expressions.Var.{Var}
use Rattle.qz_syntax.specs.declared.statements.Kind.{Kind}
use Rattle.qz_syntax.specs.declared.statements.Stmt.{Stmt}
use Rattle.qz_syntax.specs.declared.file_expressions.NameAt.{NameAt}
use Rattle.qz_syntax.specs.declared.file_statements.Cond.{Cond}
use Rattle.qz_syntax.specs.declared.file_statements.FileBlock.{FileBlock, map-FileBlock, roll-FileBlock}
use Rattle.qz_syntax.specs.declared.file_statements.FileStmt.{FileStmt, map-FileStmt, roll-FileStmt}
use Rattle.qz_syntax.specs.declared.file_statements.FileStmt.TheOpen.{FileStmt-F, FileBlock-F}
use Rattle.qz_syntax.specs.declared.file_statements.FileStmt.TheFolds.{fold-FileBlock, fold-roll-FileStmt, fold-roll-FileBlock, ind-FileStmt}
use Rattle.qz_syntax.specs.declared.files.FileProto.{FileProto}
use Rattle.qz_syntax.specs.DoubleNames.{label_names}
use Rattle.qz_types.specs.declared.numbers.Numbers.{Numbers}
use Rattle.qz_types.specs.Meanings.{Meanings}
use Rattle.qz_types.specs.Declarations.{declared}
use Rattle.qz_types.specs.ArgumentFaults.{formals_of}
use Rattle.qz_types.specs.CoreDeclarations.{local_numbers, local_names, core_decls}
use Rattle.qz_types.specs.CoreExpressions.{core_expression}
use Rattle.qz_types.specs.FileFaults.{node_labels, block_labels, labels_of}
use Rattle.qz_types.specs.Makers.{Maker, Valued, always, plainly, with_place, with_loop, with_locals, with_hold_place, pausing, repeating, branching, aborting, suspending, all_made, in_sequence, in_parallel}
use Rattle.qz_types.specs.CoreStatements.{holds, fails, label_name, assigned, doing_nothing, halting, awaiting, awaiting_now, whiling, strong, restarting, on_every, calling, in_scope, node_made, block_made, made}

names_append : (xs ys : List (Option Name)) → label_names (xs ++ ys) ≡ label_names xs ++ label_names ys
names_append [] ys = refl
names_append (None ∷ xs) ys = names_append xs ys
names_append (Some name ∷ xs) ys = ap (λ names. name ∷ names) (names_append xs ys)

-- the names of some labels
abbrev pub named : List NameAt → List Name
named labels = map (λ (label : NameAt). label.name) labels

-- what is made has these labels, after those before it
pub record Tells (labels : List Name) (maker : Maker) : Type 0 where
  pub tells : (names : Meanings Var) (n : Numbers) → label_names (maker names n).next.labels ≡ label_names n.labels ++ labels

-- the same of several parts
pub record AllTell (labels : List Name) (makers : List Maker) : Type 0 where
  pub tells : (names : Meanings Var) (n : Numbers) → label_names (all_made makers names n).next.labels ≡ label_names n.labels ++ labels

tells_nothing : Tells [] doing_nothing
tells_nothing = record { tells = λ names n. sym (append-nil (label_names n.labels)) }

tells_plainly : (tree : Meanings Var → Stmt) → Tells [] (plainly tree)
tells_plainly tree = record { tells = λ names n. sym (append-nil (label_names n.labels)) }

one_label : (label : Option Name) → label_names (label ∷ []) ≡ option_to_list label
one_label None = refl
one_label (Some name) = refl

tells_pausing : (label : Option Name) → Tells (option_to_list label) (pausing label)
tells_pausing label = record {
  tells = λ names n. names_append n.labels (label ∷ []) ∙ ap (λ xs. label_names n.labels ++ xs) (one_label label);
}

tells_repeating : (labels : List Name) (body : Maker) (e : Valued) → Tells labels body → Tells labels (repeating body e)
tells_repeating labels body e b = record { tells = λ names n. b.tells names (with_loop n) }

tells_branching : (xs ys : List Name) (e : Valued) (first second : Maker) → Tells xs first → Tells ys second → Tells (xs ++ ys) (branching e first second)
tells_branching xs ys e first second a b = record {
  tells = λ names n.
      b.tells names (first names n).next ∙ ap (λ zs. zs ++ ys) (a.tells names n) ∙ append_assoc (label_names n.labels) xs ys;
}

tells_aborting : (labels : List Name) (kind : Kind) (body : Maker) (e : Valued) → Tells labels body → Tells labels (aborting kind body e)
tells_aborting labels kind body e b = record { tells = λ names n. b.tells names n }

hold_tells : (immediate : Bool) (n : Numbers) → label_names (if immediate then with_place n None else n).labels ≡ label_names n.labels
hold_tells true n = names_append n.labels (None ∷ []) ∙ append-nil (label_names n.labels)
hold_tells false n = refl

tells_suspending : (labels : List Name) (kind : Kind) (body : Maker) (e : Valued) → Tells labels body → Tells labels (suspending kind body e)
tells_suspending labels kind body e b = record {
  tells = λ names n. b.tells names (with_hold_place kind n) ∙ ap (λ xs. xs ++ labels) (hold_tells kind.immediate n);
}

tells_sequence : (labels : List Name) (makers : List Maker) → AllTell labels makers → Tells labels (in_sequence makers)
tells_sequence labels makers all = record { tells = all.tells }

tells_parallel : (labels : List Name) (makers : List Maker) → AllTell labels makers → Tells labels (in_parallel makers)
tells_parallel labels makers all = record { tells = all.tells }

none_tell : AllTell [] []
none_tell = record { tells = λ names n. sym (append-nil (label_names n.labels)) }

more_tell : (xs ys : List Name) (maker : Maker) (makers : List Maker) → Tells xs maker → AllTell ys makers → AllTell (xs ++ ys) (maker ∷ makers)
more_tell xs ys maker makers a b = record {
  tells = λ names n.
      b.tells names (maker names n).next ∙ ap (λ zs. zs ++ ys) (a.tells names n) ∙ append_assoc (label_names n.labels) xs ys;
}

tells_scope : (labels : List Name) (locals : List NameAt) (decls : List Decl) (body : Maker) → Tells labels body → Tells labels (in_scope locals decls body)
tells_scope labels locals decls body b = record { tells = λ names n. b.tells (declared (local_numbers (length n.decls) locals) names) (with_locals n decls) }

-- a label of a statement
own_label : (label : Option NameAt) → option_to_list (label_name label) ≡ named (option_to_list label)
own_label None = refl
own_label (Some label) = refl

tells_labelled : (label : Option NameAt) (e : Valued) → Tells (named (option_to_list label)) (repeating (pausing (label_name label)) e)
tells_labelled label e =
    subst (λ xs. Tells xs (repeating (pausing (label_name label)) e)) (own_label label)
    (tells_repeating (option_to_list (label_name label)) (pausing (label_name label)) e (tells_pausing (label_name label)))

tells_whiling : (labels : List Name) (e : Valued) (body : Maker) → Tells labels body → Tells labels (whiling e body)
tells_whiling labels e body b =
    subst (λ xs. Tells xs (whiling e body)) (append-nil labels)
    (tells_branching labels [] e (repeating body e) doing_nothing (tells_repeating labels body e b) tells_nothing)

tells_await : (immediate : Bool) (label : Option NameAt) (c : Cond) → Tells (named (option_to_list label)) (if immediate then awaiting_now label c else awaiting label c)
tells_await true label c =
    subst (λ xs. Tells xs (awaiting_now label c)) (own_label label)
    (tells_whiling (option_to_list (label_name label)) (fails c) (pausing (label_name label)) (tells_pausing (label_name label)))
tells_await false label c = tells_labelled label (fails c)

tells_every : (labels : List Name) (c : Cond) (body : Maker) → Tells labels body → Tells labels (on_every c body)
tells_every labels c body b =
    let inner = in_sequence (body ∷ (halting None ∷ [])) in
    let x : Tells (labels ++ ([] ++ [])) inner =
    tells_sequence (labels ++ ([] ++ [])) (body ∷ (halting None ∷ []))
    (more_tell labels ([] ++ []) body (halting None ∷ []) b (more_tell [] [] (halting None) [] (tells_labelled None always) none_tell)) in
    let y : Tells (labels ++ []) (restarting c body) =
    tells_repeating (labels ++ []) (aborting strong inner (holds c)) always (tells_aborting (labels ++ []) strong inner (holds c) x) in
    subst (λ xs. Tells xs (on_every c body)) (append-nil (labels ++ []) ∙ append-nil labels)
    (tells_sequence ([] ++ ((labels ++ []) ++ [])) (awaiting None c ∷ (restarting c body ∷ []))
    (more_tell [] ((labels ++ []) ++ []) (awaiting None c) (restarting c body ∷ []) (tells_labelled None (fails c))
    (more_tell (labels ++ []) [] (restarting c body) [] y none_tell)))

module _ (protos : List FileProto) (callees : Meanings ℕ) where
  abbrev makes : FileStmt → Maker
  makes = made protos callees

  abbrev makes_block : FileBlock → Maker
  makes_block = fold-FileBlock Maker Maker (node_made protos callees) block_made

  abbrev block_labels_of : FileBlock → List NameAt
  block_labels_of = fold-FileBlock (List NameAt) (List NameAt) node_labels block_labels

  abbrev Stated : Type 0
  Stated = (s : FileStmt) × Tells (named (labels_of s)) (makes s)

  abbrev Blocked : Type 0
  Blocked = (b : FileBlock) × Tells (named (block_labels_of b)) (makes_block b)

  -- a node of statements and blocks alone
  abbrev bare : FileStmt-F Stated Blocked → FileStmt-F FileStmt FileBlock
  bare y = map-FileStmt Stated Blocked FileStmt FileBlock (λ (e : Stated). e.0) (λ (e : Blocked). e.0) y

  abbrev bare_block : FileBlock-F Stated Blocked → FileBlock-F FileStmt FileBlock
  bare_block y = map-FileBlock Stated Blocked FileStmt FileBlock (λ (e : Stated). e.0) (λ (e : Blocked). e.0) y

  abbrev remade : FileStmt-F Stated Blocked → Maker
  remade y = node_made protos callees (map-FileStmt FileStmt FileBlock Maker Maker makes makes_block (bare y))

  abbrev labels : FileStmt-F Stated Blocked → List NameAt
  labels y = node_labels (map-FileStmt FileStmt FileBlock (List NameAt) (List NameAt) labels_of block_labels_of (bare y))

  tells_node : (y : FileStmt-F Stated Blocked) → Tells (named (labels y)) (remade y)
  tells_node FileStmt-F.Nothing = tells_nothing
  tells_node (FileStmt-F.Pause label) = subst (λ xs. Tells xs (pausing (label_name label))) (own_label label) (tells_pausing (label_name label))
  tells_node (FileStmt-F.Halt label) = tells_labelled label always
  tells_node (FileStmt-F.Await label immediate condition) = tells_await immediate label condition
  tells_node (FileStmt-F.Assign target equals value) = tells_plainly (λ names. assigned target (core_expression names value) names)
  tells_node (FileStmt-F.Emit target) = tells_plainly (assigned target (expr.Lit yes))
  tells_node (FileStmt-F.Block block) = block.1
  tells_node (FileStmt-F.If condition first None) =
      subst (λ xs. Tells xs (branching (holds condition) (makes first.0) doing_nothing)) (append-nil (named (labels_of first.0)) ∙ ap named (sym (append-nil (labels_of first.0))))
      (tells_branching (named (labels_of first.0)) [] (holds condition) (makes first.0) doing_nothing first.1 tells_nothing)
  tells_node (FileStmt-F.If condition first (Some second)) =
      subst (λ xs. Tells xs (branching (holds condition) (makes first.0) (makes second.0)))
      (sym (map-append (λ (label : NameAt). label.name) (labels_of first.0) (labels_of second.0)))
      (tells_branching (named (labels_of first.0)) (named (labels_of second.0)) (holds condition) (makes first.0) (makes second.0) first.1 second.1)
  tells_node (FileStmt-F.DoWhile body condition) = tells_repeating (named (labels_of body.0)) (makes body.0) (holds condition) body.1
  tells_node (FileStmt-F.While condition body) = tells_whiling (named (labels_of body.0)) (holds condition) (makes body.0) body.1
  tells_node (FileStmt-F.Loop body) = tells_repeating (named (labels_of body.0)) (makes body.0) always body.1
  tells_node (FileStmt-F.Every condition body) = tells_every (named (labels_of body.0)) condition (makes body.0) body.1
  tells_node (FileStmt-F.Abort kind body condition) = tells_aborting (named (labels_of body.0)) kind (makes body.0) (holds condition) body.1
  tells_node (FileStmt-F.Suspend kind body condition) = tells_suspending (named (labels_of body.0)) kind (makes body.0) (holds condition) body.1
  tells_node (FileStmt-F.Call callee arguments) = record { tells = λ names n. sym (append-nil (label_names n.labels)) }

  tells_list : (list : List Stated)
      → AllTell (named (flat_map (λ (labels : List NameAt). labels) (map labels_of (map (λ (e : Stated). e.0) list)))) (map makes (map (λ (e : Stated). e.0) list))
  tells_list [] = none_tell
  tells_list (e ∷ list) =
      let rest = flat_map (λ (labels : List NameAt). labels) (map labels_of (map (λ (e : Stated). e.0) list)) in
      subst (λ xs. AllTell xs (makes e.0 ∷ map makes (map (λ (e : Stated). e.0) list))) (sym (map-append (λ (label : NameAt). label.name) (labels_of e.0) rest))
      (more_tell (named (labels_of e.0)) (named rest) (makes e.0) (map makes (map (λ (e : Stated). e.0) list)) e.1 (tells_list list))

  tells_lists : (lists : List (List Stated))
      → AllTell (named (flat_map (λ list. flat_map (λ (labels : List NameAt). labels) list) (map (map labels_of) (map (map (λ (e : Stated). e.0)) lists))))
      (map in_sequence (map (map makes) (map (map (λ (e : Stated). e.0)) lists)))
  tells_lists [] = none_tell
  tells_lists (list ∷ lists) =
      let here = flat_map (λ (labels : List NameAt). labels) (map labels_of (map (λ (e : Stated). e.0) list)) in
      let rest = flat_map (λ list. flat_map (λ (labels : List NameAt). labels) list) (map (map labels_of) (map (map (λ (e : Stated). e.0)) lists)) in
      let makers = map makes (map (λ (e : Stated). e.0) list) in
      let others = map in_sequence (map (map makes) (map (map (λ (e : Stated). e.0)) lists)) in
      subst (λ xs. AllTell xs (in_sequence makers ∷ others)) (sym (map-append (λ (label : NameAt). label.name) here rest))
      (more_tell (named here) (named rest) (in_sequence makers) others (tells_sequence (named here) makers (tells_list list)) (tells_lists lists))

  tells_block : (y : FileBlock-F Stated Blocked)
      → Tells (named (block_labels (map-FileBlock FileStmt FileBlock (List NameAt) (List NameAt) labels_of block_labels_of (bare_block y))))
      (block_made (map-FileBlock FileStmt FileBlock Maker Maker makes makes_block (bare_block y)))
  tells_block y =
      let labels = named (flat_map (λ list. flat_map (λ (labels : List NameAt). labels) list) (map (map labels_of) (map (map (λ (e : Stated). e.0)) y.lists))) in
      let makers = map in_sequence (map (map makes) (map (map (λ (e : Stated). e.0)) y.lists)) in
      tells_scope labels (local_names y.decls) (core_decls y.decls) (in_parallel makers) (tells_parallel labels makers (tells_lists y.lists))

  abbrev Claim : FileStmt → Type 0
  Claim s = Tells (named (labels_of s)) (makes s)

  abbrev BlockClaim : FileBlock → Type 0
  BlockClaim b = Tells (named (block_labels_of b)) (makes_block b)

  roll_tells : (x : FileStmt-F FileStmt FileBlock) → Tells (named (node_labels (map-FileStmt FileStmt FileBlock (List NameAt) (List NameAt) labels_of block_labels_of x)))
      (node_made protos callees (map-FileStmt FileStmt FileBlock Maker Maker makes makes_block x)) → Claim (roll-FileStmt x)
  unfolding made
  roll_tells x h =
      subst (λ l. Tells (named l) (makes (roll-FileStmt x))) (sym (fold-roll-FileStmt (List NameAt) (List NameAt) node_labels block_labels x))
      (subst (λ m. Tells (named (node_labels (map-FileStmt FileStmt FileBlock (List NameAt) (List NameAt) labels_of block_labels_of x))) m)
      (sym (fold-roll-FileStmt Maker Maker (node_made protos callees) block_made x)) h)

  roll_tells_block : (x : FileBlock-F FileStmt FileBlock) → Tells (named (block_labels (map-FileBlock FileStmt FileBlock (List NameAt) (List NameAt) labels_of block_labels_of x)))
      (block_made (map-FileBlock FileStmt FileBlock Maker Maker makes makes_block x)) → BlockClaim (roll-FileBlock x)
  unfolding made
  roll_tells_block x h =
      subst (λ l. Tells (named l) (makes_block (roll-FileBlock x))) (sym (fold-roll-FileBlock (List NameAt) (List NameAt) node_labels block_labels x))
      (subst (λ m. Tells (named (block_labels (map-FileBlock FileStmt FileBlock (List NameAt) (List NameAt) labels_of block_labels_of x))) m)
      (sym (fold-roll-FileBlock Maker Maker (node_made protos callees) block_made x)) h)

  statement_tells : (s : FileStmt) → Tells (named (labels_of s)) (made protos callees s)
  statement_tells = ind-FileStmt Claim BlockClaim
      (λ x y is. subst (λ z. Claim (roll-FileStmt z)) is (roll_tells (bare y) (tells_node y)))
      (λ x y is. subst (λ z. BlockClaim (roll-FileBlock z)) is (roll_tells_block (bare_block y) (tells_block y)))

  -- so the labels of the core tree are those of the statement
  pub told_labels : (s : FileStmt) (names : Meanings Var) (n : Numbers) → label_names (made protos callees s names n).next.labels ≡ label_names n.labels ++ named (labels_of s)
  told_labels s = (statement_tells s).tells
