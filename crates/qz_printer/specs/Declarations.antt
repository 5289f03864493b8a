-- The words of types, declarations and formals, each with its class and its type.
use Rattle.std.specs.Prelude.{List, ◌∷◌, ◌++◌}
use Rattle.std.specs.List.{join_by}
use Rattle.qz_syntax.specs.declared.declarations.Dir.{Dir}
use Rattle.qz_syntax.specs.declared.declarations.Dir.TheVariants as dir
use Rattle.qz_syntax.specs.declared.files.TypeText.{TypeText}
use Rattle.qz_syntax.specs.declared.files.TypeText.TheVariants as type
use Rattle.qz_syntax.specs.declared.files.FileDecl.{FileDecl}
use Rattle.qz_syntax.specs.declared.files.FileFormal.{FileFormal}
use Rattle.qz_phrases.specs.declared.words.Word.{Word}
use Rattle.qz_phrases.specs.declared.words.Word.TheVariants as word
use Rattle.qz_phrases.specs.declared.words.Mark.{Mark}
use Rattle.qz_phrases.specs.declared.words.Mark.TheVariants as mark
use Rattle.qz_phrases.specs.Words.{class_mark}
use Rattle.qz_printer.specs.Expressions.{one, name_words}

-- `bool` or `bv [ width ]`
abbrev pub type_words : TypeText → List Word
type_words type.Bool = one mark.Bool
type_words (type.Bv width at) = word.Mark mark.Bv ∷ word.Mark mark.OpenBracket ∷ word.Number width ∷ one mark.CloseBracket

-- phrases with a comma between each two
abbrev pub listed : {X : Type 0} → (X → List Word) → List X → List Word
listed words xs = join_by words (one mark.Comma) xs

abbrev pub decl_words : FileDecl → List Word
decl_words d = word.Mark (class_mark d.class) ∷ (type_words d.ty ++ (listed name_words d.names ++ one mark.Semicolon))

-- `?` for an input, `!` for an output
abbrev pub dir_mark : Dir → Mark
dir_mark dir.In = mark.Question
dir_mark dir.Out = mark.Exclamation

abbrev pub formal_words : FileFormal → List Word
formal_words f = word.Mark (class_mark f.class) ∷ (type_words f.ty ++ word.Mark (dir_mark f.dir) ∷ name_words f.name)
