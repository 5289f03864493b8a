-- Formals, and what a module or a prototype says before its body.
use Rattle.std.specs.Prelude.{ℕ, List, [], ◌∷◌, Option, Some, None}
use Rattle.qz_syntax.specs.declared.declarations.Class.{Class}
use Rattle.qz_syntax.specs.declared.declarations.Dir.{Dir}
use Rattle.qz_syntax.specs.declared.declarations.Dir.TheVariants as dir
use Rattle.qz_syntax.specs.declared.files.TypeText.{TypeText}
use Rattle.qz_syntax.specs.declared.files.FileFormal.{FileFormal}
use Rattle.qz_syntax.specs.declared.files.FileProto.{FileProto}
use Rattle.qz_phrases.specs.declared.words.Sort.{Sort}
use Rattle.qz_phrases.specs.declared.words.Sort.TheVariants as sort
use Rattle.qz_phrases.specs.declared.words.Mark.TheVariants as mark
use Rattle.qz_phrases.specs.Phrases.{Rel, none, one, name, seq, seq_by, meant, by_first, many}
use Rattle.qz_phrases.specs.Declarations.{a_typing}
use Rattle.qz_reader.specs.declared.formals.DirStart.{DirStart}
use Rattle.qz_reader.specs.declared.formals.DirStart.TheVariants as start
use Rattle.qz_reader.specs.declared.formals.FormalStart.{FormalStart}
use Rattle.qz_reader.specs.declared.formals.FormalStart.TheVariants as formal
use Rattle.qz_reader.specs.declared.formals.FormalsStart.{FormalsStart}
use Rattle.qz_reader.specs.declared.formals.FormalsStart.TheVariants as formals

-- what a word begins, where a direction is wanted
abbrev pub dir_start : Sort → DirStart
dir_start (sort.Mark mark.Question) = start.In
dir_start (sort.Mark mark.Exclamation) = start.Out
dir_start _ = start.None

-- what a word begins, where a formal is wanted
abbrev pub formal_start : Sort → FormalStart
formal_start (sort.Mark mark.Question) = formal.Dir
formal_start (sort.Mark mark.Exclamation) = formal.Dir
formal_start _ = formal.Typing

-- what a word begins, after the parenthesis of a list of formals
abbrev pub formals_start : Sort → FormalsStart
formals_start (sort.Mark mark.CloseParen) = formals.Close
formals_start _ = formals.Formal

-- `?` for an input, `!` for an output
abbrev pub dir_row : DirStart → Rel Dir
dir_row start.In = meant (λ _. dir.In) (one mark.Question)
dir_row start.Out = meant (λ _. dir.Out) (one mark.Exclamation)
dir_row start.None = none

abbrev pub a_dir : Rel Dir
a_dir = by_first (λ w. dir_row (dir_start w))

-- a formal of a class and a type that are known
abbrev pub directed : Class × TypeText → Rel FileFormal
directed known = meant (λ p. record { class = known.0; dir = p.0; ty = known.1; name = p.1 }) (seq a_dir name)

-- a formal that says its class or its type
abbrev pub typed_formal : Rel FileFormal
typed_formal = meant (λ p. p.1) (seq_by a_typing directed)

-- a formal after those before it: without class and type it takes both from the last one, and the first has one
abbrev pub known_formal : Option (Class × TypeText) → Rel FileFormal
known_formal (Some known) = directed known
known_formal None = none

abbrev pub formal_row : Option (Class × TypeText) → FormalStart → Rel FileFormal
formal_row last formal.Dir = known_formal last
formal_row last formal.Typing = typed_formal

abbrev pub a_formal : Option (Class × TypeText) → Rel FileFormal
a_formal last = by_first (λ w. formal_row last (formal_start w))

abbrev pub typing_of : FileFormal → Option (Class × TypeText)
typing_of f = Some (f.class, f.ty)

-- `, formal`, after one of this class and type
abbrev pub next_formal : Option (Class × TypeText) → Rel FileFormal
next_formal last = meant (λ p. p.1) (seq (one mark.Comma) (a_formal last))

-- the formals after the first one, and the parenthesis that closes the list
abbrev pub more_formals : FileFormal → Rel (List FileFormal)
more_formals f = meant (λ p. p.0) (λ (p : List FileFormal × ℕ). many next_formal typing_of (λ _. one mark.CloseParen) (typing_of f) p.0 p.1)

abbrev pub some_formals : Rel (List FileFormal)
some_formals = meant (λ p. p.0 ∷ p.1) (seq_by (a_formal None) more_formals)

abbrev pub formals_row : FormalsStart → Rel (List FileFormal)
formals_row formals.Close = meant (λ _. []) (one mark.CloseParen)
formals_row formals.Formal = some_formals

abbrev pub a_formals : Rel (List FileFormal)
a_formals = by_first (λ w. formals_row (formals_start w))

-- what a module or a prototype says before its body
abbrev pub a_head : Rel FileProto
a_head = meant (λ p. record { name = p.1.0; formals = p.1.1.1 }) (seq (one mark.Module) (seq name (seq (one mark.OpenParen) a_formals)))
