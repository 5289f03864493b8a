-- The words of an expression, whose parentheses stand where its tree has them.
use Rattle.std.specs.Prelude.{ℕ, List, [], ◌∷◌, ◌++◌, Option, Some, None}
use Rattle.qz_syntax.specs.declared.file_expressions.NameAt.{NameAt}
use Rattle.qz_syntax.specs.declared.file_expressions.FileExpr.{FileExpr}
use Rattle.qz_syntax.specs.declared.file_expressions.FileExpr.TheOpen.{FileExpr-F}
use Rattle.qz_syntax.specs.declared.file_expressions.FileExpr.TheFolds.{fold-FileExpr}
use Rattle.qz_phrases.specs.declared.words.Word.{Word}
use Rattle.qz_phrases.specs.declared.words.Word.TheVariants as word
use Rattle.qz_phrases.specs.declared.words.Mark.{Mark}
use Rattle.qz_phrases.specs.declared.words.Mark.TheVariants as mark
use Rattle.qz_phrases.specs.Words.{bool_mark, unary_mark, binary_mark}

-- a word alone
abbrev pub one : Mark → List Word
one m = word.Mark m ∷ []

abbrev pub name_words : NameAt → List Word
name_words n = word.Name n.name ∷ []

-- what closes a selection: `}`, or `: low }`
abbrev pub index_words : Option ℕ → List Word
index_words None = one mark.CloseBrace
index_words (Some low) = word.Mark mark.Colon ∷ word.Number low ∷ one mark.CloseBrace

-- one expression, given the words of its parts
abbrev pub node_words : FileExpr-F (List Word) → List Word
node_words (FileExpr-F.Bool value at) = one (bool_mark value)
node_words (FileExpr-F.Lit width value at) = word.Literal width value ∷ []
node_words (FileExpr-F.Name n) = name_words n
node_words (FileExpr-F.Paren at inner) = word.Mark mark.OpenParen ∷ (inner ++ one mark.CloseParen)
node_words (FileExpr-F.Un op at arg) = word.Mark (unary_mark op) ∷ arg
node_words (FileExpr-F.Bin op at left right) = left ++ word.Mark (binary_mark op) ∷ right
node_words (FileExpr-F.Choose at cond left right) = cond ++ word.Mark mark.Question ∷ (left ++ word.Mark mark.Colon ∷ right)
node_words (FileExpr-F.Select at arg high low) = arg ++ word.Mark mark.OpenBrace ∷ word.Number high ∷ index_words low
node_words (FileExpr-F.Concat at left right) = left ++ word.Mark mark.At ∷ right

-- the words of an expression
abbrev pub expr_words : FileExpr → List Word
expr_words = fold-FileExpr (List Word) node_words
