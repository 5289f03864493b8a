-- The words of a file, and its canonical text.
use Rattle.std.specs.Prelude.{ℕ, List, ◌∷◌, ◌++◌, codes}
use Rattle.std.specs.List.{flat_map, join_by}
use Rattle.qz_syntax.specs.declared.files.FileProto.{FileProto}
use Rattle.qz_syntax.specs.declared.files.File.{File}
use Rattle.qz_phrases.specs.declared.words.Word.{Word}
use Rattle.qz_phrases.specs.declared.words.Word.TheVariants as word
use Rattle.qz_phrases.specs.declared.words.Mark.TheVariants as mark
use Rattle.qz_printer.specs.Texts.{word_text}
use Rattle.qz_printer.specs.Expressions.{one}
use Rattle.qz_printer.specs.Declarations.{listed, formal_words}
use Rattle.qz_printer.specs.Statements.{block_words}

-- what a module or a prototype says before its body
abbrev pub head_words : FileProto → List Word
head_words p = word.Mark mark.Module ∷ word.Name p.name.name ∷ word.Mark mark.OpenParen ∷ (listed formal_words p.formals ++ one mark.CloseParen)

abbrev pub proto_words : FileProto → List Word
proto_words p = head_words p ++ one mark.Semicolon

abbrev pub file_words : File → List Word
file_words f = flat_map proto_words f.protos ++ (head_words f.module ++ block_words f.body)

-- The canonical text of a file: its words, with one space between each two, and a line feed at the end. Offsets are
-- no part of it.
abbrev pub canonical_text : File → List ℕ
canonical_text f = join_by word_text (codes " ") (file_words f) ++ codes "\n"
