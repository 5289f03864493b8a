-- The locals of each statement differ from those round it, where nothing is said against the statement.
use Rattle.std.proofs.Common.{◌≡◌, ℕ, map, List, [], ◌∷◌, ◌++◌, Option, Some, None, sym, ap, subst, unwrap_or}
use Rattle.std.specs.List.{flat_map}
use Rattle.qz_values.specs.Values.{yes}
use Rattle.qz_syntax.specs.declared.expressions.Expr.TheVariants as expr
use Rattle.qz_syntax.specs.declared.file_statements.FileBlock.{FileBlock, map-FileBlock, roll-FileBlock}
use Rattle.qz_syntax.specs.declared.file_statements.FileStmt.{FileStmt, map-FileStmt, roll-FileStmt}
use Rattle.qz_syntax.specs.declared.file_statements.FileStmt.TheOpen.{FileStmt-F, FileBlock-F}
use Rattle.qz_syntax.specs.declared.file_statements.FileStmt.TheFolds.{fold-FileBlock, fold-roll-FileStmt, fold-roll-FileBlock, ind-FileStmt}
use Rattle.qz_syntax.specs.declared.files.FileDecl.{FileDecl}
use Rattle.qz_syntax.specs.declared.files.FileProto.{FileProto}
use Rattle.qz_types.specs.declared.faults.Fault.{Fault}
use Rattle.qz_types.specs.declared.variables.Variable.{Variable}
use Rattle.qz_types.specs.Meanings.{Meanings}
use Rattle.qz_types.specs.WrittenTypes.{type_faults}
use Rattle.qz_types.specs.Declarations.{declared, double_names, local_variables}
use Rattle.qz_types.specs.ArgumentFaults.{formals_of}
use Rattle.qz_types.specs.StatementFaults.{Said, condition_faults, node_faults, block_faults, statement_faults}
use Rattle.qz_types.specs.CoreDeclarations.{local_names, core_decls}
use Rattle.qz_types.specs.CoreExpressions.{core_expression}
use Rattle.qz_types.specs.Makers.{Maker, always, in_sequence, in_parallel}
use Rattle.qz_types.specs.CoreStatements.{holds, label_name, doing_nothing, node_made, block_made, made}
use Rattle.qz_types.proofs.Faultless.{first_nil, second_nil}
use Rattle.qz_types.proofs.MadeInduction.{Each, Forms, keeps_halting, keeps_await, keeps_whiling, keeps_every}
use Rattle.qz_types.proofs.Differing.{Names, forms_named, scope_named}

module _ (protos : List FileProto) (callees : Meanings ℕ) where
  abbrev makes : FileStmt → Maker
  makes = made protos callees

  abbrev makes_block : FileBlock → Maker
  makes_block = fold-FileBlock Maker Maker (node_made protos callees) block_made

  abbrev said : FileStmt → Said
  said = statement_faults protos callees

  abbrev said_block : FileBlock → Said
  said_block = fold-FileBlock Said Said (node_faults protos callees) block_faults

  -- where nothing is said, the locals differ
  pub record Claim (s : FileStmt) : Type 0 where
    pub names : (file : Meanings Variable) → statement_faults protos callees s file ≡ [] → Names file (made protos callees s)

  record BlockClaim (b : FileBlock) : Type 0 where
    names : (file : Meanings Variable) → said_block b file ≡ [] → Names file (makes_block b)

  abbrev Stated : Type 0
  Stated = (s : FileStmt) × Claim s

  abbrev Blocked : Type 0
  Blocked = (b : FileBlock) × BlockClaim b

  abbrev bare : FileStmt-F Stated Blocked → FileStmt-F FileStmt FileBlock
  bare y = map-FileStmt Stated Blocked FileStmt FileBlock (λ (e : Stated). e.0) (λ (e : Blocked). e.0) y

  abbrev bare_block : FileBlock-F Stated Blocked → FileBlock-F FileStmt FileBlock
  bare_block y = map-FileBlock Stated Blocked FileStmt FileBlock (λ (e : Stated). e.0) (λ (e : Blocked). e.0) y

  names_node : (y : FileStmt-F Stated Blocked) (file : Meanings Variable)
      → node_faults protos callees (map-FileStmt FileStmt FileBlock Said Said said said_block (bare y)) file ≡ []
      → Names file (node_made protos callees (map-FileStmt FileStmt FileBlock Maker Maker makes makes_block (bare y)))
  names_node FileStmt-F.Nothing file e = (forms_named file).at_nothing
  names_node (FileStmt-F.Pause label) file e = (forms_named file).at_pausing (label_name label)
  names_node (FileStmt-F.Halt label) file e = keeps_halting (Names file) (forms_named file) label
  names_node (FileStmt-F.Await label immediate condition) file e = keeps_await (Names file) (forms_named file) immediate label condition
  names_node (FileStmt-F.Assign target equals value) file e = (forms_named file).at_assigned target (λ names. core_expression names value)
  names_node (FileStmt-F.Emit target) file e = (forms_named file).at_assigned target (λ names. expr.Lit yes)
  names_node (FileStmt-F.Block block) file e = block.1.names file e
  names_node (FileStmt-F.If condition first None) file e =
      (forms_named file).at_branching (holds condition) (makes first.0) doing_nothing
      (first.1.names file (first_nil (said first.0 file) [] (second_nil (condition_faults file condition) (said first.0 file ++ []) e))) (forms_named file).at_nothing
  names_node (FileStmt-F.If condition first (Some second)) file e =
      let sides = second_nil (condition_faults file condition) (said first.0 file ++ said second.0 file) e in
      (forms_named file).at_branching (holds condition) (makes first.0) (makes second.0)
      (first.1.names file (first_nil (said first.0 file) (said second.0 file) sides)) (second.1.names file (second_nil (said first.0 file) (said second.0 file) sides))
  names_node (FileStmt-F.DoWhile body condition) file e =
      (forms_named file).at_repeating (makes body.0) (holds condition) (body.1.names file (first_nil (said body.0 file) (condition_faults file condition) e))
  names_node (FileStmt-F.While condition body) file e =
      keeps_whiling (Names file) (forms_named file) (holds condition) (makes body.0) (body.1.names file (second_nil (condition_faults file condition) (said body.0 file) e))
  names_node (FileStmt-F.Loop body) file e = (forms_named file).at_repeating (makes body.0) always (body.1.names file e)
  names_node (FileStmt-F.Every condition body) file e =
      keeps_every (Names file) (forms_named file) condition (makes body.0) (body.1.names file (second_nil (condition_faults file condition) (said body.0 file) e))
  names_node (FileStmt-F.Abort kind body condition) file e =
      (forms_named file).at_aborting kind (makes body.0) (holds condition) (body.1.names file (first_nil (said body.0 file) (condition_faults file condition) e))
  names_node (FileStmt-F.Suspend kind body condition) file e =
      (forms_named file).at_suspending kind (makes body.0) (holds condition) (body.1.names file (first_nil (said body.0 file) (condition_faults file condition) e))
  names_node (FileStmt-F.Call callee arguments) file e =
      (forms_named file).at_calling (unwrap_or (callees callee.name) 0) (unwrap_or (formals_of protos callees callee.name) []) arguments

  names_list : (list : List Stated) (file : Meanings Variable) → flat_map (λ (s : Said). s file) (map said (map (λ (e : Stated). e.0) list)) ≡ []
      → Each (Names file) (map makes (map (λ (e : Stated). e.0) list))
  names_list [] file e = tt
  names_list (s ∷ list) file e =
      let rest = flat_map (λ (s : Said). s file) (map said (map (λ (e : Stated). e.0) list)) in
      (s.1.names file (first_nil (said s.0 file) rest e), names_list list file (second_nil (said s.0 file) rest e))

  names_lists : (lists : List (List Stated)) (file : Meanings Variable)
      → flat_map (λ list. flat_map (λ (s : Said). s file) list) (map (map said) (map (map (λ (e : Stated). e.0)) lists)) ≡ []
      → Each (Names file) (map in_sequence (map (map makes) (map (map (λ (e : Stated). e.0)) lists)))
  names_lists [] file e = tt
  names_lists (list ∷ lists) file e =
      let here = flat_map (λ (s : Said). s file) (map said (map (λ (e : Stated). e.0) list)) in
      let rest = flat_map (λ list. flat_map (λ (s : Said). s file) list) (map (map said) (map (map (λ (e : Stated). e.0)) lists)) in
      ((forms_named file).at_sequence (map makes (map (λ (e : Stated). e.0) list)) (names_list list file (first_nil here rest e)), names_lists lists file (second_nil here rest e))

  names_block : (y : FileBlock-F Stated Blocked) (file : Meanings Variable)
      → block_faults (map-FileBlock FileStmt FileBlock Said Said said said_block (bare_block y)) file ≡ []
      → Names file (block_made (map-FileBlock FileStmt FileBlock Maker Maker makes makes_block (bare_block y)))
  names_block y file e =
      let inner = declared (local_variables y.decls) file in
      let widths = flat_map (λ (decl : FileDecl). type_faults decl.ty) y.decls in
      let doubles = double_names (local_variables y.decls) file in
      let lists = flat_map (λ list. flat_map (λ (s : Said). s inner) list) (map (map said) (map (map (λ (e : Stated). e.0)) y.lists)) in
      let makers = map in_sequence (map (map makes) (map (map (λ (e : Stated). e.0)) y.lists)) in
      let later = second_nil widths (doubles ++ lists) e in
      scope_named file y.decls (in_parallel makers) (first_nil widths (doubles ++ lists) e) (first_nil doubles lists later)
      ((forms_named inner).at_parallel makers (names_lists y.lists inner (second_nil doubles lists later)))

  roll_names : (x : FileStmt-F FileStmt FileBlock)
      → ((file : Meanings Variable) → node_faults protos callees (map-FileStmt FileStmt FileBlock Said Said said said_block x) file ≡ []
      → Names file (node_made protos callees (map-FileStmt FileStmt FileBlock Maker Maker makes makes_block x))) → Claim (roll-FileStmt x)
  unfolding made
  roll_names x h = record {
    names = λ file e.
        subst (λ m. Names file m) (sym (fold-roll-FileStmt Maker Maker (node_made protos callees) block_made x))
        (h file (subst (λ (s : Said). s file ≡ []) (fold-roll-FileStmt Said Said (node_faults protos callees) block_faults x) e));
  }

  roll_names_block : (x : FileBlock-F FileStmt FileBlock)
      → ((file : Meanings Variable) → block_faults (map-FileBlock FileStmt FileBlock Said Said said said_block x) file ≡ []
      → Names file (block_made (map-FileBlock FileStmt FileBlock Maker Maker makes makes_block x))) → BlockClaim (roll-FileBlock x)
  unfolding made
  roll_names_block x h = record {
    names = λ file e.
        subst (λ m. Names file m) (sym (fold-roll-FileBlock Maker Maker (node_made protos callees) block_made x))
        (h file (subst (λ (s : Said). s file ≡ []) (fold-roll-FileBlock Said Said (node_faults protos callees) block_faults x) e));
  }

  pub statement_names : (s : FileStmt) → Claim s
  statement_names = ind-FileStmt Claim BlockClaim
      (λ x y is. subst (λ z. Claim (roll-FileStmt z)) is (roll_names (bare y) (names_node y)))
      (λ x y is. subst (λ z. BlockClaim (roll-FileBlock z)) is (roll_names_block (bare_block y) (names_block y)))
