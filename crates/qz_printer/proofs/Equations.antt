-- The words of each form of expression and of statement.
use Rattle.std.proofs.Common.{◌≡◌, ℕ, Bool, List, [], ◌∷◌, ◌++◌, map, Option, Some, None, sym, ap, ap₂, ◌∙◌, refl}
use Rattle.std.proofs.Math.Path.{fun_ext}
use Rattle.std.proofs.lemmas.List.Folds.{flat_map-map}
use Rattle.std.specs.List.{flat_map, join_by}
use Rattle.qz_values.specs.declared.Op1.{Op1}
use Rattle.qz_values.specs.declared.Op2.{Op2}
use Rattle.qz_syntax.specs.declared.statements.Kind.{Kind}
use Rattle.qz_syntax.specs.declared.file_expressions.NameAt.{NameAt}
use Rattle.qz_syntax.specs.declared.file_expressions.FileExpr.{FileExpr}
use Rattle.qz_syntax.specs.declared.file_expressions.FileExpr.TheVariants as expr
use Rattle.qz_syntax.specs.declared.file_expressions.FileExpr.TheOpen.{FileExpr-F}
use Rattle.qz_syntax.specs.declared.file_expressions.FileExpr.TheFolds.{fold-roll-FileExpr}
use Rattle.qz_syntax.specs.declared.file_statements.Cond.{Cond}
use Rattle.qz_syntax.specs.declared.file_statements.Target.{Target}
use Rattle.qz_syntax.specs.declared.file_statements.FileBlock.{FileBlock}
use Rattle.qz_syntax.specs.declared.file_statements.FileStmt.{FileStmt}
use Rattle.qz_syntax.specs.declared.file_statements.FileStmt.TheVariants as stmt
use Rattle.qz_syntax.specs.declared.file_statements.FileStmt.TheOpen.{FileStmt-F}
use Rattle.qz_syntax.specs.declared.file_statements.FileStmt.TheFolds.{fold-roll-FileStmt, fold_out-FileBlock}
use Rattle.qz_phrases.specs.declared.words.Word.{Word}
use Rattle.qz_phrases.specs.declared.words.Word.TheVariants as word
use Rattle.qz_phrases.specs.declared.words.Mark.TheVariants as mark
use Rattle.qz_phrases.specs.Words.{bool_mark, unary_mark, binary_mark}
use Rattle.qz_printer.specs.Expressions.{one, index_words, node_words as expr_node, expr_words}
use Rattle.qz_printer.specs.Declarations.{listed, decl_words}
use Rattle.qz_printer.specs.Statements.{cond_words, target_words, label_words, immediate_words, kind_words, closing_words, list_words, node_words, block_node_words, stmt_words, block_words}

pub words-Bool : (value : Bool) (at : ℕ) → expr_words (expr.Bool value at) ≡ one (bool_mark value)
words-Bool value at = ap expr_words (sym (expr.rolls-Bool value at)) ∙ fold-roll-FileExpr (List Word) expr_node (FileExpr-F.Bool value at)

pub words-Lit : (width value at : ℕ) → expr_words (expr.Lit width value at) ≡ word.Literal width value ∷ []
words-Lit width value at = ap expr_words (sym (expr.rolls-Lit width value at)) ∙ fold-roll-FileExpr (List Word) expr_node (FileExpr-F.Lit width value at)

pub words-Name : (n : NameAt) → expr_words (expr.Name n) ≡ word.Name n.name ∷ []
words-Name n = ap expr_words (sym (expr.rolls-Name n)) ∙ fold-roll-FileExpr (List Word) expr_node (FileExpr-F.Name n)

pub words-Paren : (at : ℕ) (inner : FileExpr) → expr_words (expr.Paren at inner) ≡ word.Mark mark.OpenParen ∷ (expr_words inner ++ one mark.CloseParen)
words-Paren at inner = ap expr_words (sym (expr.rolls-Paren at inner)) ∙ fold-roll-FileExpr (List Word) expr_node (FileExpr-F.Paren at inner)

pub words-Un : (op : Op1) (at : ℕ) (arg : FileExpr) → expr_words (expr.Un op at arg) ≡ word.Mark (unary_mark op) ∷ expr_words arg
words-Un op at arg = ap expr_words (sym (expr.rolls-Un op at arg)) ∙ fold-roll-FileExpr (List Word) expr_node (FileExpr-F.Un op at arg)

pub words-Bin : (op : Op2) (at : ℕ) (left right : FileExpr) → expr_words (expr.Bin op at left right) ≡ expr_words left ++ word.Mark (binary_mark op) ∷ expr_words right
words-Bin op at left right = ap expr_words (sym (expr.rolls-Bin op at left right)) ∙ fold-roll-FileExpr (List Word) expr_node (FileExpr-F.Bin op at left right)

pub words-Choose : (at : ℕ) (cond left right : FileExpr)
    → expr_words (expr.Choose at cond left right) ≡ expr_words cond ++ word.Mark mark.Question ∷ (expr_words left ++ word.Mark mark.Colon ∷ expr_words right)
words-Choose at cond left right = ap expr_words (sym (expr.rolls-Choose at cond left right)) ∙ fold-roll-FileExpr (List Word) expr_node (FileExpr-F.Choose at cond left right)

pub words-Select : (at : ℕ) (arg : FileExpr) (high : ℕ) (low : Option ℕ)
    → expr_words (expr.Select at arg high low) ≡ expr_words arg ++ word.Mark mark.OpenBrace ∷ word.Number high ∷ index_words low
words-Select at arg high low = ap expr_words (sym (expr.rolls-Select at arg high low)) ∙ fold-roll-FileExpr (List Word) expr_node (FileExpr-F.Select at arg high low)

pub words-Concat : (at : ℕ) (left right : FileExpr) → expr_words (expr.Concat at left right) ≡ expr_words left ++ word.Mark mark.At ∷ expr_words right
words-Concat at left right = ap expr_words (sym (expr.rolls-Concat at left right)) ∙ fold-roll-FileExpr (List Word) expr_node (FileExpr-F.Concat at left right)

pub words-Nothing : stmt_words stmt.Nothing ≡ word.Mark mark.Nothing ∷ one mark.Semicolon
words-Nothing = ap stmt_words (sym stmt.rolls-Nothing) ∙ fold-roll-FileStmt (List Word) (List Word) node_words block_node_words FileStmt-F.Nothing

pub words-Pause : (label : Option NameAt) → stmt_words (stmt.Pause label) ≡ label_words label ++ word.Mark mark.Pause ∷ one mark.Semicolon
words-Pause label = ap stmt_words (sym (stmt.rolls-Pause label)) ∙ fold-roll-FileStmt (List Word) (List Word) node_words block_node_words (FileStmt-F.Pause label)

pub words-Halt : (label : Option NameAt) → stmt_words (stmt.Halt label) ≡ label_words label ++ word.Mark mark.Halt ∷ one mark.Semicolon
words-Halt label = ap stmt_words (sym (stmt.rolls-Halt label)) ∙ fold-roll-FileStmt (List Word) (List Word) node_words block_node_words (FileStmt-F.Halt label)

pub words-Await : (label : Option NameAt) (immediate : Bool) (cond : Cond)
    → stmt_words (stmt.Await label immediate cond) ≡ label_words label ++ (immediate_words immediate ++ word.Mark mark.Await ∷ closing_words cond)
words-Await label immediate cond =
    ap stmt_words (sym (stmt.rolls-Await label immediate cond)) ∙ fold-roll-FileStmt (List Word) (List Word) node_words block_node_words (FileStmt-F.Await label immediate cond)

pub words-Assign : (target : Target) (equals : ℕ) (value : FileExpr)
    → stmt_words (stmt.Assign target equals value) ≡ target_words target ++ word.Mark mark.Equals ∷ (expr_words value ++ one mark.Semicolon)
words-Assign target equals value =
    ap stmt_words (sym (stmt.rolls-Assign target equals value)) ∙ fold-roll-FileStmt (List Word) (List Word) node_words block_node_words (FileStmt-F.Assign target equals value)

pub words-Emit : (target : Target) → stmt_words (stmt.Emit target) ≡ word.Mark mark.Emit ∷ (target_words target ++ one mark.Semicolon)
words-Emit target = ap stmt_words (sym (stmt.rolls-Emit target)) ∙ fold-roll-FileStmt (List Word) (List Word) node_words block_node_words (FileStmt-F.Emit target)

pub words-Block : (block : FileBlock) → stmt_words (stmt.Block block) ≡ block_words block
words-Block block = ap stmt_words (sym (stmt.rolls-Block block)) ∙ fold-roll-FileStmt (List Word) (List Word) node_words block_node_words (FileStmt-F.Block block)

pub words-If : (cond : Cond) (first : FileStmt) → stmt_words (stmt.If cond first None) ≡ word.Mark mark.If ∷ (cond_words cond ++ (stmt_words first ++ []))
words-If cond first = ap stmt_words (sym (stmt.rolls-If cond first None)) ∙ fold-roll-FileStmt (List Word) (List Word) node_words block_node_words (FileStmt-F.If cond first None)

pub words-IfElse : (cond : Cond) (first second : FileStmt)
    → stmt_words (stmt.If cond first (Some second)) ≡ word.Mark mark.If ∷ (cond_words cond ++ (stmt_words first ++ word.Mark mark.Else ∷ stmt_words second))
words-IfElse cond first second =
    ap stmt_words (sym (stmt.rolls-If cond first (Some second))) ∙ fold-roll-FileStmt (List Word) (List Word) node_words block_node_words (FileStmt-F.If cond first (Some second))

pub words-DoWhile : (body : FileStmt) (cond : Cond)
    → stmt_words (stmt.DoWhile body cond) ≡ word.Mark mark.Do ∷ (stmt_words body ++ word.Mark mark.While ∷ closing_words cond)
words-DoWhile body cond = ap stmt_words (sym (stmt.rolls-DoWhile body cond)) ∙ fold-roll-FileStmt (List Word) (List Word) node_words block_node_words (FileStmt-F.DoWhile body cond)

pub words-While : (cond : Cond) (body : FileStmt) → stmt_words (stmt.While cond body) ≡ word.Mark mark.While ∷ (cond_words cond ++ stmt_words body)
words-While cond body = ap stmt_words (sym (stmt.rolls-While cond body)) ∙ fold-roll-FileStmt (List Word) (List Word) node_words block_node_words (FileStmt-F.While cond body)

pub words-Loop : (body : FileStmt) → stmt_words (stmt.Loop body) ≡ word.Mark mark.Loop ∷ stmt_words body
words-Loop body = ap stmt_words (sym (stmt.rolls-Loop body)) ∙ fold-roll-FileStmt (List Word) (List Word) node_words block_node_words (FileStmt-F.Loop body)

pub words-Every : (cond : Cond) (body : FileStmt) → stmt_words (stmt.Every cond body) ≡ word.Mark mark.Every ∷ (cond_words cond ++ stmt_words body)
words-Every cond body = ap stmt_words (sym (stmt.rolls-Every cond body)) ∙ fold-roll-FileStmt (List Word) (List Word) node_words block_node_words (FileStmt-F.Every cond body)

pub words-Abort : (kind : Kind) (body : FileStmt) (cond : Cond)
    → stmt_words (stmt.Abort kind body cond) ≡ kind_words kind ++ word.Mark mark.Abort ∷ (stmt_words body ++ word.Mark mark.When ∷ closing_words cond)
words-Abort kind body cond = ap stmt_words (sym (stmt.rolls-Abort kind body cond)) ∙ fold-roll-FileStmt (List Word) (List Word) node_words block_node_words (FileStmt-F.Abort kind body cond)

pub words-Suspend : (kind : Kind) (body : FileStmt) (cond : Cond)
    → stmt_words (stmt.Suspend kind body cond) ≡ kind_words kind ++ word.Mark mark.Suspend ∷ (stmt_words body ++ word.Mark mark.When ∷ closing_words cond)
words-Suspend kind body cond =
    ap stmt_words (sym (stmt.rolls-Suspend kind body cond)) ∙ fold-roll-FileStmt (List Word) (List Word) node_words block_node_words (FileStmt-F.Suspend kind body cond)

pub words-Call : (callee : NameAt) (args : List FileExpr)
    → stmt_words (stmt.Call callee args) ≡ word.Name callee.name ∷ word.Mark mark.OpenParen ∷ (listed expr_words args ++ word.Mark mark.CloseParen ∷ one mark.Semicolon)
words-Call callee args = ap stmt_words (sym (stmt.rolls-Call callee args)) ∙ fold-roll-FileStmt (List Word) (List Word) node_words block_node_words (FileStmt-F.Call callee args)

-- the words of a block's lists
lists_of : (lists : List (List FileStmt)) → join_by list_words (one mark.BarBar) (map (map stmt_words) lists) ≡ join_by (λ list. flat_map stmt_words list) (one mark.BarBar) lists
lists_of [] = refl
lists_of (list ∷ lists) =
    ap₂ (λ a b. a ++ b) (flat_map-map (λ words. words) stmt_words list)
    (flat_map-map (λ l. one mark.BarBar ++ list_words l) (map stmt_words) lists
    ∙ ap (λ (g : List FileStmt → List Word). flat_map g lists) (fun_ext (λ l. ap (λ words. one mark.BarBar ++ words) (flat_map-map (λ words. words) stmt_words l))))

pub words_of_block : (block : FileBlock)
    → block_words block ≡ word.Mark mark.OpenBrace ∷ (flat_map decl_words block.decls ++ (join_by (λ list. flat_map stmt_words list) (one mark.BarBar) block.lists ++ one mark.CloseBrace))
words_of_block block =
    fold_out-FileBlock (List Word) (List Word) node_words block_node_words block
    ∙ ap (λ words. word.Mark mark.OpenBrace ∷ (flat_map decl_words block.decls ++ (words ++ one mark.CloseBrace))) (lists_of block.lists)

pub ruleset expression_words = (words-Bool, words-Lit, words-Name, words-Paren, words-Un, words-Bin, words-Choose, words-Select, words-Concat)

pub ruleset statement_words = (words-Nothing, words-Pause, words-Halt, words-Await, words-Assign, words-Emit, words-Block, words-If, words-IfElse, words-DoWhile, words-While, words-Loop, words-Every, words-Abort, words-Suspend, words-Call, words_of_block)
