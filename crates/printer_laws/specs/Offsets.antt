-- Trees without their offsets: each offset is 0. Two trees are the same but for offsets where these are equal.
use Rattle.std.specs.Prelude.{◌≡◌, map, Option, Some, None}
use Rattle.qz_syntax.specs.declared.files.TypeText.{TypeText}
use Rattle.qz_syntax.specs.declared.files.TypeText.TheVariants as type
use Rattle.qz_syntax.specs.declared.files.FileDecl.{FileDecl}
use Rattle.qz_syntax.specs.declared.files.FileFormal.{FileFormal}
use Rattle.qz_syntax.specs.declared.files.FileProto.{FileProto}
use Rattle.qz_syntax.specs.declared.files.File.{File}
use Rattle.qz_syntax.specs.declared.file_expressions.NameAt.{NameAt}
use Rattle.qz_syntax.specs.declared.file_expressions.FileExpr.{FileExpr}
use Rattle.qz_syntax.specs.declared.file_expressions.FileExpr.TheVariants as expr
use Rattle.qz_syntax.specs.declared.file_expressions.FileExpr.TheOpen.{FileExpr-F}
use Rattle.qz_syntax.specs.declared.file_expressions.FileExpr.TheFolds.{fold-FileExpr}
use Rattle.qz_syntax.specs.declared.file_statements.Cond.{Cond}
use Rattle.qz_syntax.specs.declared.file_statements.Target.{Target}
use Rattle.qz_syntax.specs.declared.file_statements.FileBlock.{FileBlock}
use Rattle.qz_syntax.specs.declared.file_statements.FileStmt.{FileStmt}
use Rattle.qz_syntax.specs.declared.file_statements.FileStmt.TheVariants as stmt
use Rattle.qz_syntax.specs.declared.file_statements.FileStmt.TheOpen.{FileStmt-F, FileBlock-F}
use Rattle.qz_syntax.specs.declared.file_statements.FileStmt.TheFolds.{fold-FileStmt, fold-FileBlock}

abbrev pub plain_name : NameAt → NameAt
plain_name n = record { name = n.name; at = 0 }

abbrev pub plain_type : TypeText → TypeText
plain_type type.Bool = type.Bool
plain_type (type.Bv width at) = type.Bv width 0

-- one expression, given its parts without their offsets
abbrev pub expr_node : FileExpr-F FileExpr → FileExpr
expr_node (FileExpr-F.Bool value at) = expr.Bool value 0
expr_node (FileExpr-F.Lit width value at) = expr.Lit width value 0
expr_node (FileExpr-F.Name n) = expr.Name (plain_name n)
expr_node (FileExpr-F.Paren at inner) = expr.Paren 0 inner
expr_node (FileExpr-F.Un op at arg) = expr.Un op 0 arg
expr_node (FileExpr-F.Bin op at left right) = expr.Bin op 0 left right
expr_node (FileExpr-F.Choose at cond left right) = expr.Choose 0 cond left right
expr_node (FileExpr-F.Select at arg high low) = expr.Select 0 arg high low
expr_node (FileExpr-F.Concat at left right) = expr.Concat 0 left right

abbrev pub plain_expr : FileExpr → FileExpr
plain_expr = fold-FileExpr FileExpr expr_node

abbrev pub plain_cond : Cond → Cond
plain_cond c = record { at = 0; expr = plain_expr c.expr }

abbrev pub plain_target : Target → Target
plain_target t = record { next = t.next; name = plain_name t.name }

abbrev pub plain_label : Option NameAt → Option NameAt
plain_label None = None
plain_label (Some n) = Some (plain_name n)

abbrev pub plain_decl : FileDecl → FileDecl
plain_decl d = record { class = d.class; ty = plain_type d.ty; names = map plain_name d.names }

-- one statement, given those in it without their offsets
abbrev pub stmt_node : FileStmt-F FileStmt FileBlock → FileStmt
stmt_node FileStmt-F.Nothing = stmt.Nothing
stmt_node (FileStmt-F.Pause label) = stmt.Pause (plain_label label)
stmt_node (FileStmt-F.Halt label) = stmt.Halt (plain_label label)
stmt_node (FileStmt-F.Await label immediate cond) = stmt.Await (plain_label label) immediate (plain_cond cond)
stmt_node (FileStmt-F.Assign target equals value) = stmt.Assign (plain_target target) 0 (plain_expr value)
stmt_node (FileStmt-F.Emit target) = stmt.Emit (plain_target target)
stmt_node (FileStmt-F.Block block) = stmt.Block block
stmt_node (FileStmt-F.If cond first second) = stmt.If (plain_cond cond) first second
stmt_node (FileStmt-F.DoWhile body cond) = stmt.DoWhile body (plain_cond cond)
stmt_node (FileStmt-F.While cond body) = stmt.While (plain_cond cond) body
stmt_node (FileStmt-F.Loop body) = stmt.Loop body
stmt_node (FileStmt-F.Every cond body) = stmt.Every (plain_cond cond) body
stmt_node (FileStmt-F.Abort kind body cond) = stmt.Abort kind body (plain_cond cond)
stmt_node (FileStmt-F.Suspend kind body cond) = stmt.Suspend kind body (plain_cond cond)
stmt_node (FileStmt-F.Call callee args) = stmt.Call (plain_name callee) (map plain_expr args)

abbrev pub block_node : FileBlock-F FileStmt FileBlock → FileBlock
block_node block = record { decls = map plain_decl block.decls; lists = block.lists }

abbrev pub plain_stmt : FileStmt → FileStmt
plain_stmt = fold-FileStmt FileStmt FileBlock stmt_node block_node

abbrev pub plain_block : FileBlock → FileBlock
plain_block = fold-FileBlock FileStmt FileBlock stmt_node block_node

abbrev pub plain_formal : FileFormal → FileFormal
plain_formal f = record { class = f.class; dir = f.dir; ty = plain_type f.ty; name = plain_name f.name }

abbrev pub plain_proto : FileProto → FileProto
plain_proto p = record { name = plain_name p.name; formals = map plain_formal p.formals }

abbrev pub plain_file : File → File
plain_file f = record { protos = map plain_proto f.protos; «module» = plain_proto f.module; body = plain_block f.body }

-- the same file but for offsets
abbrev pub IsAlike : File → File → Type 0
IsAlike f g = plain_file f ≡ plain_file g
