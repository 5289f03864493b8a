-- What is said against each form of statement.
use Rattle.std.proofs.Common.{◌≡◌, ℕ, List, [], ◌∷◌, ◌++◌, map, Option, Some, None, sym, ap, ap₂, ◌∙◌, append-nil}
use Rattle.std.specs.List.{flat_map}
use Rattle.std.proofs.Math.Path.{fun_ext}
use Rattle.std.proofs.lemmas.List.Folds.{flat_map-map}
use Rattle.qz_syntax.specs.declared.file_statements.Cond.{Cond}
use Rattle.qz_syntax.specs.declared.statements.Kind.{Kind}
use Rattle.qz_syntax.specs.declared.file_statements.FileBlock.{FileBlock}
use Rattle.qz_syntax.specs.declared.file_statements.FileStmt.{FileStmt}
use Rattle.qz_syntax.specs.declared.file_statements.FileStmt.TheVariants as stmt
use Rattle.qz_syntax.specs.declared.file_statements.FileStmt.TheOpen.{FileStmt-F}
use Rattle.qz_syntax.specs.declared.file_statements.FileStmt.TheFolds.{fold-roll-FileStmt, fold_out-FileBlock}
use Rattle.qz_syntax.specs.declared.files.FileDecl.{FileDecl}
use Rattle.qz_syntax.specs.declared.files.FileProto.{FileProto}
use Rattle.qz_types.specs.declared.faults.Fault.{Fault}
use Rattle.qz_types.specs.declared.variables.Variable.{Variable}
use Rattle.qz_types.specs.Meanings.{Meanings}
use Rattle.qz_types.specs.WrittenTypes.{type_faults}
use Rattle.qz_types.specs.Declarations.{declared, double_names, local_variables}
use Rattle.qz_types.specs.StatementFaults.{Said, condition_faults, node_faults, block_faults, statement_faults}

module _ (protos : List FileProto) (callees : Meanings ℕ) where
  pub faults-If : (c : Cond) (s : FileStmt) (names : Meanings Variable)
      → statement_faults protos callees (stmt.If c s None) names ≡ condition_faults names c ++ statement_faults protos callees s names
  faults-If c s names =
      let e = ap (statement_faults protos callees) (sym (stmt.rolls-If c s None)) ∙ fold-roll-FileStmt Said Said (node_faults protos callees) block_faults (FileStmt-F.If c s None) in
      ap (λ (f : Said). f names) e ∙ ap (λ xs. condition_faults names c ++ xs) (append-nil (statement_faults protos callees s names))

  pub faults-IfElse : (c : Cond) (s t : FileStmt) (names : Meanings Variable)
      → statement_faults protos callees (stmt.If c s (Some t)) names
      ≡ condition_faults names c ++ (statement_faults protos callees s names ++ statement_faults protos callees t names)
  faults-IfElse c s t names =
      ap (λ (f : Said). f names) (ap (statement_faults protos callees) (sym (stmt.rolls-If c s (Some t)))
      ∙ fold-roll-FileStmt Said Said (node_faults protos callees) block_faults (FileStmt-F.If c s (Some t)))

  pub faults-While : (c : Cond) (s : FileStmt) (names : Meanings Variable)
      → statement_faults protos callees (stmt.While c s) names ≡ condition_faults names c ++ statement_faults protos callees s names
  faults-While c s names =
      ap (λ (f : Said). f names) (ap (statement_faults protos callees) (sym (stmt.rolls-While c s))
      ∙ fold-roll-FileStmt Said Said (node_faults protos callees) block_faults (FileStmt-F.While c s))

  pub faults-Every : (c : Cond) (s : FileStmt) (names : Meanings Variable)
      → statement_faults protos callees (stmt.Every c s) names ≡ condition_faults names c ++ statement_faults protos callees s names
  faults-Every c s names =
      ap (λ (f : Said). f names) (ap (statement_faults protos callees) (sym (stmt.rolls-Every c s))
      ∙ fold-roll-FileStmt Said Said (node_faults protos callees) block_faults (FileStmt-F.Every c s))

  pub faults-DoWhile : (s : FileStmt) (c : Cond) (names : Meanings Variable)
      → statement_faults protos callees (stmt.DoWhile s c) names ≡ statement_faults protos callees s names ++ condition_faults names c
  faults-DoWhile s c names =
      ap (λ (f : Said). f names) (ap (statement_faults protos callees) (sym (stmt.rolls-DoWhile s c))
      ∙ fold-roll-FileStmt Said Said (node_faults protos callees) block_faults (FileStmt-F.DoWhile s c))

  pub faults-Abort : (kind : Kind) (s : FileStmt) (c : Cond) (names : Meanings Variable)
      → statement_faults protos callees (stmt.Abort kind s c) names ≡ statement_faults protos callees s names ++ condition_faults names c
  faults-Abort kind s c names =
      ap (λ (f : Said). f names) (ap (statement_faults protos callees) (sym (stmt.rolls-Abort kind s c))
      ∙ fold-roll-FileStmt Said Said (node_faults protos callees) block_faults (FileStmt-F.Abort kind s c))

  pub faults-Suspend : (kind : Kind) (s : FileStmt) (c : Cond) (names : Meanings Variable)
      → statement_faults protos callees (stmt.Suspend kind s c) names ≡ statement_faults protos callees s names ++ condition_faults names c
  faults-Suspend kind s c names =
      ap (λ (f : Said). f names) (ap (statement_faults protos callees) (sym (stmt.rolls-Suspend kind s c))
      ∙ fold-roll-FileStmt Said Said (node_faults protos callees) block_faults (FileStmt-F.Suspend kind s c))

  pub faults-Block : (block : FileBlock) (names : Meanings Variable)
      → statement_faults protos callees (stmt.Block block) names
      ≡ flat_map (λ (decl : FileDecl). type_faults decl.ty) block.decls ++ (double_names (local_variables block.decls) names
      ++ flat_map (λ list. flat_map (λ s. statement_faults protos callees s (declared (local_variables block.decls) names)) list) block.lists)
  faults-Block block names =
      let e = ap (statement_faults protos callees) (sym (stmt.rolls-Block block)) ∙ fold-roll-FileStmt Said Said (node_faults protos callees) block_faults (FileStmt-F.Block block) in
      let f = fold_out-FileBlock Said Said (node_faults protos callees) block_faults block in
      let inner = declared (local_variables block.decls) names in
      let list_is : (list : List FileStmt) → flat_map (λ (said : Said). said inner) (map (statement_faults protos callees) list) ≡ flat_map (λ s. statement_faults protos callees s inner) list =
      λ list. flat_map-map (λ (said : Said). said inner) (statement_faults protos callees) list in
      ap (λ (g : Said). g names) (e ∙ f) ∙ ap (λ xs. flat_map (λ (decl : FileDecl). type_faults decl.ty) block.decls ++ (double_names (local_variables block.decls) names ++ xs))
      (flat_map-map (λ list. flat_map (λ (said : Said). said inner) list) (map (statement_faults protos callees)) block.lists
      ∙ ap (λ (g : List FileStmt → List Fault). flat_map g block.lists) (fun_ext list_is))
