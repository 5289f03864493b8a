-- Offsets are no part of what is printed.
use Rattle.std.proofs.Common.{◌≡◌, Bool, true, false, List, [], ◌∷◌, ◌++◌, map, Option, Some, None, sym, refl, ap, ap₂, ◌∙◌, subst}
use Rattle.std.specs.List.{flat_map, join_by}
use Rattle.qz_syntax.specs.declared.files.TypeText.{TypeText}
use Rattle.qz_syntax.specs.declared.files.TypeText.TheVariants as type
use Rattle.qz_syntax.specs.declared.files.FileDecl.{FileDecl}
use Rattle.qz_syntax.specs.declared.files.FileFormal.{FileFormal}
use Rattle.qz_syntax.specs.declared.files.FileProto.{FileProto}
use Rattle.qz_syntax.specs.declared.files.File.{File}
use Rattle.qz_syntax.specs.declared.file_expressions.NameAt.{NameAt}
use Rattle.qz_syntax.specs.declared.file_expressions.FileExpr.{FileExpr, map-FileExpr, roll-FileExpr}
use Rattle.qz_syntax.specs.declared.file_expressions.FileExpr.TheOpen.{FileExpr-F}
use Rattle.qz_syntax.specs.declared.file_expressions.FileExpr.TheFolds.{fold-roll-FileExpr, ind-FileExpr}
use Rattle.qz_syntax.specs.declared.file_statements.Cond.{Cond}
use Rattle.qz_syntax.specs.declared.file_statements.FileBlock.{FileBlock, map-FileBlock, roll-FileBlock}
use Rattle.qz_syntax.specs.declared.file_statements.FileStmt.{FileStmt, map-FileStmt, roll-FileStmt}
use Rattle.qz_syntax.specs.declared.file_statements.FileStmt.TheOpen.{FileStmt-F, FileBlock-F}
use Rattle.qz_syntax.specs.declared.file_statements.FileStmt.TheFolds.{fold-roll-FileStmt, fold-roll-FileBlock, ind-FileStmt}
use Rattle.qz_phrases.specs.declared.words.Word.{Word}
use Rattle.qz_phrases.specs.declared.words.Word.TheVariants as word
use Rattle.qz_phrases.specs.declared.words.Mark.TheVariants as mark
use Rattle.qz_phrases.specs.Words.{class_mark, unary_mark, binary_mark}
use Rattle.qz_printer.specs.Expressions.{one as word_one, name_words, index_words, node_words as expr_node_words, expr_words}
use Rattle.qz_printer.specs.Declarations.{type_words, decl_words, dir_mark, formal_words}
use Rattle.qz_printer.specs.Statements.{cond_words, target_row, label_words, immediate_words, kind_words, closing_words, node_words, block_node_words, stmt_words, block_words}
use Rattle.qz_printer.specs.Files.{head_words, proto_words, file_words}
use Rattle.qz_printer.proofs.Equations.{words-Bool, words-Lit, words-Name, words-Paren, words-Un, words-Bin, words-Choose, words-Select, words-Concat, words-Nothing, words-Pause, words-Halt, words-Await, words-Assign, words-Emit, words-Block, words-If, words-IfElse, words-DoWhile, words-While, words-Loop, words-Every, words-Abort, words-Suspend, words-Call, words_of_block}
use Rattle.printer_laws.specs.Offsets.{plain_name, plain_type, expr_node, plain_expr, plain_cond, plain_target, plain_label, plain_decl, stmt_node, block_node, plain_stmt, plain_block, plain_formal, plain_proto, plain_file, IsAlike}
use Rattle.printer_laws.proofs.PlainForms.{plain_block_is}

-- lists of which each member has the words of the one of its place
each_same : {X : Type 0} (f : X → X) (words : X → List Word) → ((x : X) → words (f x) ≡ words x) → (xs : List X) → flat_map words (map f xs) ≡ flat_map words xs
each_same f words same [] = refl
each_same f words same (x ∷ xs) = ap₂ (λ a b. a ++ b) (same x) (each_same f words same xs)

join_same : {X : Type 0} (f : X → X) (words : X → List Word) (between : List Word) → ((x : X) → words (f x) ≡ words x) → (xs : List X) → join_by words between (map f xs) ≡ join_by words between xs
join_same f words between same [] = refl
join_same f words between same (x ∷ xs) = ap₂ (λ a b. a ++ b) (same x) (each_same f (λ y. between ++ words y) (λ y. ap (λ l. between ++ l) (same y)) xs)

-- expressions
abbrev ExprClaim : FileExpr → Type 0
ExprClaim e = expr_words (plain_expr e) ≡ expr_words e

abbrev Told : Type 0
Told = (e : FileExpr) × ExprClaim e

abbrev bare_expr : FileExpr-F Told → FileExpr-F FileExpr
bare_expr y = map-FileExpr Told FileExpr (λ (e : Told). e.0) y

expr_layer : (y : FileExpr-F Told) → expr_words (expr_node (map-FileExpr FileExpr FileExpr plain_expr (bare_expr y))) ≡ expr_node_words (map-FileExpr FileExpr (List Word) expr_words (bare_expr y))
expr_layer (FileExpr-F.Bool value at) = words-Bool value 0
expr_layer (FileExpr-F.Lit width value at) = words-Lit width value 0
expr_layer (FileExpr-F.Name n) = words-Name (plain_name n)
expr_layer (FileExpr-F.Paren at inner) = words-Paren 0 (plain_expr inner.0) ∙ ap (λ l. word.Mark mark.OpenParen ∷ (l ++ word_one mark.CloseParen)) inner.1
expr_layer (FileExpr-F.Un op at arg) = words-Un op 0 (plain_expr arg.0) ∙ ap (λ l. word.Mark (unary_mark op) ∷ l) arg.1
expr_layer (FileExpr-F.Bin op at left right) = words-Bin op 0 (plain_expr left.0) (plain_expr right.0) ∙ ap₂ (λ l r. l ++ word.Mark (binary_mark op) ∷ r) left.1 right.1
expr_layer (FileExpr-F.Choose at cond left right) =
    words-Choose 0 (plain_expr cond.0) (plain_expr left.0) (plain_expr right.0)
    ∙ ap (λ c. c ++ word.Mark mark.Question ∷ (expr_words (plain_expr left.0) ++ word.Mark mark.Colon ∷ expr_words (plain_expr right.0))) cond.1
    ∙ ap₂ (λ l r. expr_words cond.0 ++ word.Mark mark.Question ∷ (l ++ word.Mark mark.Colon ∷ r)) left.1 right.1
expr_layer (FileExpr-F.Select at arg high low) = words-Select 0 (plain_expr arg.0) high low ∙ ap (λ l. l ++ word.Mark mark.OpenBrace ∷ word.Number high ∷ index_words low) arg.1
expr_layer (FileExpr-F.Concat at left right) = words-Concat 0 (plain_expr left.0) (plain_expr right.0) ∙ ap₂ (λ l r. l ++ word.Mark mark.At ∷ r) left.1 right.1

expr_rolled : (x : FileExpr-F FileExpr) → expr_words (expr_node (map-FileExpr FileExpr FileExpr plain_expr x)) ≡ expr_node_words (map-FileExpr FileExpr (List Word) expr_words x) → ExprClaim (roll-FileExpr x)
expr_rolled x h = ap expr_words (fold-roll-FileExpr FileExpr expr_node x) ∙ h ∙ sym (fold-roll-FileExpr (List Word) expr_node_words x)

expr_same : (e : FileExpr) → ExprClaim e
expr_same = ind-FileExpr ExprClaim (λ x y is. subst (λ z. ExprClaim (roll-FileExpr z)) is (expr_rolled (bare_expr y) (expr_layer y)))

-- parts of statements
cond_same : (c : Cond) → cond_words (plain_cond c) ≡ cond_words c
cond_same c = ap (λ l. word.Mark mark.OpenParen ∷ (l ++ word_one mark.CloseParen)) (expr_same c.expr)

closing_same : (c : Cond) → closing_words (plain_cond c) ≡ closing_words c
closing_same c = ap (λ l. l ++ word_one mark.Semicolon) (cond_same c)

target_same : (next : Bool) (n : NameAt) → target_row next (plain_name n) ≡ target_row next n
target_same true n = refl
target_same false n = refl

label_same : (l : Option NameAt) → label_words (plain_label l) ≡ label_words l
label_same None = refl
label_same (Some n) = refl

type_same : (t : TypeText) → type_words (plain_type t) ≡ type_words t
type_same type.Bool = refl
type_same (type.Bv width at) = refl

decl_same : (d : FileDecl) → decl_words (plain_decl d) ≡ decl_words d
decl_same d =
    ap₂ (λ t ns. word.Mark (class_mark d.class) ∷ (t ++ (ns ++ word_one mark.Semicolon))) (type_same d.ty) (join_same plain_name name_words (word_one mark.Comma) (λ n. refl) d.names)

-- statements
abbrev Claim : FileStmt → Type 0
Claim s = stmt_words (plain_stmt s) ≡ stmt_words s

abbrev BlockClaim : FileBlock → Type 0
BlockClaim b = block_words (plain_block b) ≡ block_words b

abbrev Stated : Type 0
Stated = (s : FileStmt) × Claim s

abbrev Blocked : Type 0
Blocked = (b : FileBlock) × BlockClaim b

abbrev bare : FileStmt-F Stated Blocked → FileStmt-F FileStmt FileBlock
bare y = map-FileStmt Stated Blocked FileStmt FileBlock (λ (e : Stated). e.0) (λ (e : Blocked). e.0) y

abbrev bare_block : FileBlock-F Stated Blocked → FileBlock-F FileStmt FileBlock
bare_block y = map-FileBlock Stated Blocked FileStmt FileBlock (λ (e : Stated). e.0) (λ (e : Blocked). e.0) y

layer : (y : FileStmt-F Stated Blocked)
    → stmt_words (stmt_node (map-FileStmt FileStmt FileBlock FileStmt FileBlock plain_stmt plain_block (bare y))) ≡ node_words (map-FileStmt FileStmt FileBlock (List Word) (List Word) stmt_words block_words (bare y))
layer FileStmt-F.Nothing = words-Nothing
layer (FileStmt-F.Pause label) = words-Pause (plain_label label) ∙ ap (λ l. l ++ word.Mark mark.Pause ∷ word_one mark.Semicolon) (label_same label)
layer (FileStmt-F.Halt label) = words-Halt (plain_label label) ∙ ap (λ l. l ++ word.Mark mark.Halt ∷ word_one mark.Semicolon) (label_same label)
layer (FileStmt-F.Await label immediate cond) =
    words-Await (plain_label label) immediate (plain_cond cond) ∙ ap₂ (λ l c. l ++ (immediate_words immediate ++ word.Mark mark.Await ∷ c)) (label_same label) (closing_same cond)
layer (FileStmt-F.Assign target equals value) =
    words-Assign (plain_target target) 0 (plain_expr value) ∙ ap₂ (λ t v. t ++ word.Mark mark.Equals ∷ (v ++ word_one mark.Semicolon)) (target_same target.next target.name) (expr_same value)
layer (FileStmt-F.Emit target) = words-Emit (plain_target target) ∙ ap (λ t. word.Mark mark.Emit ∷ (t ++ word_one mark.Semicolon)) (target_same target.next target.name)
layer (FileStmt-F.Block block) = words-Block (plain_block block.0) ∙ block.1
layer (FileStmt-F.If cond first None) =
    words-If (plain_cond cond) (plain_stmt first.0) ∙ ap₂ (λ c s. word.Mark mark.If ∷ (c ++ (s ++ []))) (cond_same cond) first.1
layer (FileStmt-F.If cond first (Some second)) =
    words-IfElse (plain_cond cond) (plain_stmt first.0) (plain_stmt second.0)
    ∙ ap (λ c. word.Mark mark.If ∷ (c ++ (stmt_words (plain_stmt first.0) ++ word.Mark mark.Else ∷ stmt_words (plain_stmt second.0)))) (cond_same cond)
    ∙ ap₂ (λ s t. word.Mark mark.If ∷ (cond_words cond ++ (s ++ word.Mark mark.Else ∷ t))) first.1 second.1
layer (FileStmt-F.DoWhile body cond) = words-DoWhile (plain_stmt body.0) (plain_cond cond) ∙ ap₂ (λ s c. word.Mark mark.Do ∷ (s ++ word.Mark mark.While ∷ c)) body.1 (closing_same cond)
layer (FileStmt-F.While cond body) = words-While (plain_cond cond) (plain_stmt body.0) ∙ ap₂ (λ c s. word.Mark mark.While ∷ (c ++ s)) (cond_same cond) body.1
layer (FileStmt-F.Loop body) = words-Loop (plain_stmt body.0) ∙ ap (λ s. word.Mark mark.Loop ∷ s) body.1
layer (FileStmt-F.Every cond body) = words-Every (plain_cond cond) (plain_stmt body.0) ∙ ap₂ (λ c s. word.Mark mark.Every ∷ (c ++ s)) (cond_same cond) body.1
layer (FileStmt-F.Abort kind body cond) =
    words-Abort kind (plain_stmt body.0) (plain_cond cond) ∙ ap₂ (λ s c. kind_words kind ++ word.Mark mark.Abort ∷ (s ++ word.Mark mark.When ∷ c)) body.1 (closing_same cond)
layer (FileStmt-F.Suspend kind body cond) =
    words-Suspend kind (plain_stmt body.0) (plain_cond cond) ∙ ap₂ (λ s c. kind_words kind ++ word.Mark mark.Suspend ∷ (s ++ word.Mark mark.When ∷ c)) body.1 (closing_same cond)
layer (FileStmt-F.Call callee args) =
    words-Call (plain_name callee) (map plain_expr args)
    ∙ ap (λ es. word.Name callee.name ∷ word.Mark mark.OpenParen ∷ (es ++ word.Mark mark.CloseParen ∷ word_one mark.Semicolon)) (join_same plain_expr expr_words (word_one mark.Comma) expr_same args)

-- lists of statements
abbrev laid : List (List FileStmt) → List Word
laid lists = join_by (λ (list : List FileStmt). flat_map stmt_words list) (word_one mark.BarBar) lists

abbrev around : FileBlock → List Word
around b = word.Mark mark.OpenBrace ∷ (flat_map decl_words b.decls ++ (laid b.lists ++ word_one mark.CloseBrace))

list_same : (list : List Stated) → flat_map stmt_words (map plain_stmt (map (λ (e : Stated). e.0) list)) ≡ flat_map stmt_words (map (λ (e : Stated). e.0) list)
list_same [] = refl
list_same (s ∷ list) = ap₂ (λ a b. a ++ b) s.1 (list_same list)

later_same : (lists : List (List Stated))
    → flat_map (λ (list : List FileStmt). word_one mark.BarBar ++ flat_map stmt_words list) (map (map plain_stmt) (map (map (λ (e : Stated). e.0)) lists))
    ≡ flat_map (λ (list : List FileStmt). word_one mark.BarBar ++ flat_map stmt_words list) (map (map (λ (e : Stated). e.0)) lists)
later_same [] = refl
later_same (list ∷ lists) = ap₂ (λ a b. (word_one mark.BarBar ++ a) ++ b) (list_same list) (later_same lists)

lists_same : (lists : List (List Stated)) → laid (map (map plain_stmt) (map (map (λ (e : Stated). e.0)) lists)) ≡ laid (map (map (λ (e : Stated). e.0)) lists)
lists_same [] = refl
lists_same (list ∷ lists) = ap₂ (λ a b. a ++ b) (list_same list) (later_same lists)

block_rolled : (y : FileBlock-F Stated Blocked) → BlockClaim (roll-FileBlock (bare_block y))
block_rolled y =
    ap block_words (fold-roll-FileBlock FileStmt FileBlock stmt_node block_node (bare_block y))
    ∙ words_of_block (block_node (map-FileBlock FileStmt FileBlock FileStmt FileBlock plain_stmt plain_block (bare_block y)))
    ∙ ap₂ (λ d l. word.Mark mark.OpenBrace ∷ (d ++ (l ++ word_one mark.CloseBrace))) (each_same plain_decl decl_words decl_same y.decls) (lists_same y.lists)
    ∙ sym (words_of_block (roll-FileBlock (bare_block y)))

rolled : (x : FileStmt-F FileStmt FileBlock)
    → stmt_words (stmt_node (map-FileStmt FileStmt FileBlock FileStmt FileBlock plain_stmt plain_block x)) ≡ node_words (map-FileStmt FileStmt FileBlock (List Word) (List Word) stmt_words block_words x)
    → Claim (roll-FileStmt x)
rolled x h = ap stmt_words (fold-roll-FileStmt FileStmt FileBlock stmt_node block_node x) ∙ h ∙ sym (fold-roll-FileStmt (List Word) (List Word) node_words block_node_words x)

stmt_same : (s : FileStmt) → Claim s
stmt_same = ind-FileStmt Claim BlockClaim
    (λ x y is. subst (λ z. Claim (roll-FileStmt z)) is (rolled (bare y) (layer y)))
    (λ x y is. subst (λ z. BlockClaim (roll-FileBlock z)) is (block_rolled y))

-- files
block_same : (b : FileBlock) → BlockClaim b
block_same b = plain_block_words b
  where
    plain_block_words : (c : FileBlock) → block_words (plain_block c) ≡ block_words c
    plain_block_words c =
        ap block_words (plain_block_is c)
        ∙ words_of_block (record { decls = map plain_decl c.decls; lists = map (map plain_stmt) c.lists })
        ∙ ap₂ (λ d l. word.Mark mark.OpenBrace ∷ (d ++ (l ++ word_one mark.CloseBrace))) (each_same plain_decl decl_words decl_same c.decls)
        (join_same (map plain_stmt) (λ (list : List FileStmt). flat_map stmt_words list) (word_one mark.BarBar) (each_same plain_stmt stmt_words stmt_same) c.lists)
        ∙ sym (words_of_block c)

formal_same : (f : FileFormal) → formal_words (plain_formal f) ≡ formal_words f
formal_same f = ap (λ t. word.Mark (class_mark f.class) ∷ (t ++ word.Mark (dir_mark f.dir) ∷ name_words f.name)) (type_same f.ty)

head_same : (p : FileProto) → head_words (plain_proto p) ≡ head_words p
head_same p = ap (λ fs. word.Mark mark.Module ∷ word.Name p.name.name ∷ word.Mark mark.OpenParen ∷ (fs ++ word_one mark.CloseParen)) (join_same plain_formal formal_words (word_one mark.Comma) formal_same p.formals)

file_same : (f : File) → file_words (plain_file f) ≡ file_words f
file_same f =
    ap₂ (λ ps m. ps ++ (m ++ block_words (plain_block f.body))) (each_same plain_proto proto_words (λ p. ap (λ l. l ++ word_one mark.Semicolon) (head_same p)) f.protos) (head_same f.module)
    ∙ ap (λ b. flat_map proto_words f.protos ++ (head_words f.module ++ b)) (block_same f.body)

-- files that are the same but for offsets have the same words
pub alike_words : (f g : File) → IsAlike f g → file_words f ≡ file_words g
alike_words f g same = sym (file_same f) ∙ ap file_words same ∙ file_same g
