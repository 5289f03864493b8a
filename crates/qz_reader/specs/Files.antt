-- A whole file: prototypes and then one module.
use Rattle.std.specs.Prelude.{Bool, true, false}
use Rattle.qz_phrases.specs.declared.words.Sort.{Sort}
use Rattle.qz_phrases.specs.declared.words.Sort.TheVariants as sort
use Rattle.qz_syntax.specs.declared.files.FileProto.{FileProto}
use Rattle.qz_syntax.specs.declared.files.File.{File}
use Rattle.qz_syntax.specs.declared.file_statements.FileBlock.{FileBlock}
use Rattle.qz_phrases.specs.declared.words.Mark.TheVariants as mark
use Rattle.qz_phrases.specs.Phrases.{Rel, Kind, one, seq, meant, several}
use Rattle.qz_reader.specs.Statements.{a_block, a_stmt}
use Rattle.qz_reader.specs.Formals.{a_head}

-- whether a word begins the body of a module
abbrev pub opens : Sort → Bool
opens (sort.Mark mark.OpenBrace) = true
opens _ = false

abbrev pub a_proto : Rel FileProto
a_proto = meant (λ p. p.0) (seq a_head (one mark.Semicolon))

-- a module whose statements have at most this many levels
abbrev pub a_module : Kind (FileProto × FileBlock)
a_module levels = seq a_head (a_block (a_stmt levels))

-- a file whose statements have at most this many levels
abbrev pub a_file : Kind File
a_file levels = meant (λ p. record { protos = p.0; «module» = p.1.0; body = p.1.1 }) (several a_proto (a_module levels))
