-- Faults of grammar, said of texts alone: which texts begin as this one does.
use Rattle.std.specs.Prelude.{◌≡◌, ℕ, List, [], ◌∷◌, ◌++◌, map, length, Ok}
use Rattle.std.specs.Str.{chars, IsUtf8}
use Rattle.qz_lexer.specs.Lexemes.{Lexeme, Lexes}
use Rattle.qz_syntax.specs.declared.files.File.{File}
use Rattle.qz_reader.specs.Texts.{IsFile, most}
use Rattle.qz_source.specs.Spots.{spot_of}

-- some text begins with these tokens and spells a file of which the statements have at most so many levels
pub record BeginsText (levels : ℕ) (front : List Lexeme) : Type 0 where
  pub bytes : List ℕ
  pub utf8 : IsUtf8 bytes
  pub more : List Lexeme
  pub lexed : Lexes (chars bytes) (Ok (front ++ more))
  pub file : File
  pub spelled : IsFile levels (map spot_of (front ++ more)) file

-- where these tokens begin, the last of which ends with the text
abbrev pub offset_of : ℕ → List Lexeme → ℕ
offset_of end [] = end
offset_of end (token ∷ tokens) = token.offset

-- the tokens of the text are these before the offset, and those from it on
pub record Divides (bytes : List ℕ) (offset : ℕ) (front rest : List Lexeme) : Type 0 where
  pub utf8 : IsUtf8 bytes
  pub lexed : Lexes (chars bytes) (Ok (front ++ rest))
  pub place : offset ≡ offset_of (length bytes) rest

-- no text goes on with the next of the rest; where there is none, the text itself is no file
abbrev pub GoesNowhere : ℕ → List Lexeme → List Lexeme → Type 0
GoesNowhere levels front [] = (f : File) → IsFile levels (map spot_of front) f → ⊥
GoesNowhere levels front (token ∷ tokens) = BeginsText levels (front ++ token ∷ []) → ⊥

-- With the tokens before the offset begins a text within the levels, and with the next one none of however many
-- levels. Where there is no next one, the tokens spell no file.
pub record IsParseText (bytes : List ℕ) (offset : ℕ) : Type 0 where
  pub front : List Lexeme
  pub rest : List Lexeme
  pub divides : Divides bytes offset front rest
  pub begins : BeginsText most front
  pub none : (levels : ℕ) → GoesNowhere levels front rest

-- With the tokens before the offset begins a text within the levels, and with the next one only texts of more levels.
pub record IsDeepText (bytes : List ℕ) (offset : ℕ) : Type 0 where
  pub front : List Lexeme
  pub next : Lexeme
  pub rest : List Lexeme
  pub divides : Divides bytes offset front (next ∷ rest)
  pub begins : BeginsText most front
  pub none : BeginsText most (front ++ next ∷ []) → ⊥
  pub levels : ℕ
  pub deeper : BeginsText levels (front ++ next ∷ [])
