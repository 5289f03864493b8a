-- The words of statements and blocks.
use Rattle.std.specs.Prelude.{Bool, true, false, List, [], ◌∷◌, ◌++◌, Option, Some, None}
use Rattle.std.specs.List.{flat_map, join_by}
use Rattle.qz_syntax.specs.declared.statements.Kind.{Kind}
use Rattle.qz_syntax.specs.declared.file_expressions.NameAt.{NameAt}
use Rattle.qz_syntax.specs.declared.file_statements.Cond.{Cond}
use Rattle.qz_syntax.specs.declared.file_statements.Target.{Target}
use Rattle.qz_syntax.specs.declared.file_statements.FileBlock.{FileBlock}
use Rattle.qz_syntax.specs.declared.file_statements.FileStmt.{FileStmt}
use Rattle.qz_syntax.specs.declared.file_statements.FileStmt.TheOpen.{FileStmt-F, FileBlock-F}
use Rattle.qz_syntax.specs.declared.file_statements.FileStmt.TheFolds.{fold-FileStmt, fold-FileBlock}
use Rattle.qz_phrases.specs.declared.words.Word.{Word}
use Rattle.qz_phrases.specs.declared.words.Word.TheVariants as word
use Rattle.qz_phrases.specs.declared.words.Mark.TheVariants as mark
use Rattle.qz_printer.specs.Expressions.{one, name_words, expr_words}
use Rattle.qz_printer.specs.Declarations.{listed, decl_words}

-- `( e )`
abbrev pub cond_words : Cond → List Word
cond_words c = word.Mark mark.OpenParen ∷ (expr_words c.expr ++ one mark.CloseParen)

-- `x` or `next ( x )`
abbrev pub target_row : Bool → NameAt → List Word
target_row false n = name_words n
target_row true n = word.Mark mark.Next ∷ word.Mark mark.OpenParen ∷ word.Name n.name ∷ one mark.CloseParen

abbrev pub target_words : Target → List Word
target_words t = target_row t.next t.name

-- a label before its statement
abbrev pub label_words : Option NameAt → List Word
label_words None = []
label_words (Some n) = word.Name n.name ∷ one mark.Colon

abbrev pub immediate_words : Bool → List Word
immediate_words true = one mark.Immediate
immediate_words false = []

abbrev pub weak_words : Bool → List Word
weak_words true = one mark.Weak
weak_words false = []

abbrev pub kind_words : Kind → List Word
kind_words k = weak_words k.weak ++ immediate_words k.immediate

-- `when ( e ) ;` or `while ( e ) ;` after its first word
abbrev pub closing_words : Cond → List Word
closing_words c = cond_words c ++ one mark.Semicolon

-- the side of an `if` for false, given its words
abbrev pub else_words : Option (List Word) → List Word
else_words None = []
else_words (Some other) = word.Mark mark.Else ∷ other

-- one statement, given the words of its parts
abbrev pub node_words : FileStmt-F (List Word) (List Word) → List Word
node_words FileStmt-F.Nothing = word.Mark mark.Nothing ∷ one mark.Semicolon
node_words (FileStmt-F.Pause label) = label_words label ++ word.Mark mark.Pause ∷ one mark.Semicolon
node_words (FileStmt-F.Halt label) = label_words label ++ word.Mark mark.Halt ∷ one mark.Semicolon
node_words (FileStmt-F.Await label immediate cond) = label_words label ++ (immediate_words immediate ++ word.Mark mark.Await ∷ closing_words cond)
node_words (FileStmt-F.Assign target equals value) = target_words target ++ word.Mark mark.Equals ∷ (expr_words value ++ one mark.Semicolon)
node_words (FileStmt-F.Emit target) = word.Mark mark.Emit ∷ (target_words target ++ one mark.Semicolon)
node_words (FileStmt-F.Block block) = block
node_words (FileStmt-F.If cond first second) = word.Mark mark.If ∷ (cond_words cond ++ (first ++ else_words second))
node_words (FileStmt-F.DoWhile body cond) = word.Mark mark.Do ∷ (body ++ word.Mark mark.While ∷ closing_words cond)
node_words (FileStmt-F.While cond body) = word.Mark mark.While ∷ (cond_words cond ++ body)
node_words (FileStmt-F.Loop body) = word.Mark mark.Loop ∷ body
node_words (FileStmt-F.Every cond body) = word.Mark mark.Every ∷ (cond_words cond ++ body)
node_words (FileStmt-F.Abort kind body cond) = kind_words kind ++ word.Mark mark.Abort ∷ (body ++ word.Mark mark.When ∷ closing_words cond)
node_words (FileStmt-F.Suspend kind body cond) = kind_words kind ++ word.Mark mark.Suspend ∷ (body ++ word.Mark mark.When ∷ closing_words cond)
node_words (FileStmt-F.Call callee args) = word.Name callee.name ∷ word.Mark mark.OpenParen ∷ (listed expr_words args ++ word.Mark mark.CloseParen ∷ one mark.Semicolon)

-- one list of a block, given the words of its statements
abbrev pub list_words : List (List Word) → List Word
list_words list = flat_map (λ words. words) list

-- a block, given the words of the statements in it
abbrev pub block_node_words : FileBlock-F (List Word) (List Word) → List Word
block_node_words block =
    word.Mark mark.OpenBrace ∷ (flat_map decl_words block.decls ++ (join_by list_words (one mark.BarBar) block.lists ++ one mark.CloseBrace))

-- the words of a statement, and of a block
abbrev pub stmt_words : FileStmt → List Word
stmt_words = fold-FileStmt (List Word) (List Word) node_words block_node_words

abbrev pub block_words : FileBlock → List Word
block_words = fold-FileBlock (List Word) (List Word) node_words block_node_words
