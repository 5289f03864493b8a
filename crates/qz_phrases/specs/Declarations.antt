-- Types and declarations.
use Rattle.std.specs.Prelude.{Bool, true, false, List, ◌∷◌}
use Rattle.qz_syntax.specs.declared.declarations.Class.{Class}
use Rattle.qz_syntax.specs.declared.declarations.Class.TheVariants as class
use Rattle.qz_syntax.specs.declared.files.TypeText.{TypeText}
use Rattle.qz_syntax.specs.declared.files.TypeText.TheVariants as type
use Rattle.qz_syntax.specs.declared.files.FileDecl.{FileDecl}
use Rattle.qz_syntax.specs.declared.file_expressions.NameAt.{NameAt}
use Rattle.qz_phrases.specs.declared.words.Sort.{Sort}
use Rattle.qz_phrases.specs.declared.words.Sort.TheVariants as sort
use Rattle.qz_phrases.specs.declared.words.Mark.TheVariants as mark
use Rattle.qz_phrases.specs.declared.words.TypeStart.{TypeStart}
use Rattle.qz_phrases.specs.declared.words.TypeStart.TheVariants as start
use Rattle.qz_phrases.specs.declared.words.TypingStart.{TypingStart}
use Rattle.qz_phrases.specs.declared.words.TypingStart.TheVariants as typing
use Rattle.qz_phrases.specs.Words.{class_mark, type_start, typing_start}
use Rattle.qz_phrases.specs.Phrases.{Rel, none, one, name, number, seq, meant, by_first, nothing, several}

-- `bool` or `bv[n]`
abbrev pub type_row : TypeStart → Rel TypeText
type_row start.Bool = meant (λ _. type.Bool) (one mark.Bool)
type_row start.Bv = meant (λ p. type.Bv p.1.1.0.0 p.1.1.0.1) (seq (one mark.Bv) (seq (one mark.OpenBracket) (seq number (one mark.CloseBracket))))
type_row start.None = none

abbrev pub a_type : Rel TypeText
a_type = by_first (λ w. type_row (type_start w))

-- a type, or else `bool` without a word
abbrev pub type_or_bool_row : TypeStart → Rel TypeText
type_or_bool_row start.Bool = a_type
type_or_bool_row start.Bv = a_type
type_or_bool_row start.None = nothing type.Bool

abbrev pub type_or_bool : Rel TypeText
type_or_bool = by_first (λ w. type_or_bool_row (type_start w))

-- a class, a type or both: without a class it is `mem`
abbrev pub typing_row : TypingStart → Rel (Class × TypeText)
typing_row (typing.Class c) = meant (λ p. (c, p.1)) (seq (one (class_mark c)) type_or_bool)
typing_row typing.Type = meant (λ t. (class.Mem, t)) a_type
typing_row typing.None = none

abbrev pub a_typing : Rel (Class × TypeText)
a_typing = by_first (λ w. typing_row (typing_start w))

-- whether a word begins a declaration
abbrev pub declares : Sort → Bool
declares (sort.Mark mark.Event) = true
declares (sort.Mark mark.Mem) = true
declares (sort.Mark mark.Bool) = true
declares (sort.Mark mark.Bv) = true
declares _ = false

-- `, name`
abbrev pub next_name : Rel NameAt
next_name = meant (λ p. p.1) (seq (one mark.Comma) name)

abbrev pub names : Rel (List NameAt)
names = meant (λ p. p.0 ∷ p.1.0) (seq name (several next_name (one mark.Semicolon)))

abbrev pub a_decl : Rel FileDecl
a_decl = meant (λ p. record { class = p.0.0; ty = p.0.1; names = p.1 }) (seq a_typing names)
