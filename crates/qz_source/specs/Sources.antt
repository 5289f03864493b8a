-- Which bytes spell a file, and what is the first fault of bytes that spell none.
use Rattle.std.specs.Prelude.{◌≡◌, ℕ, zero, suc, List, [], ◌∷◌, map, length, Ok, Err}
use Rattle.std.specs.Str.{chars, IsUtf8, IsValidUpTo}
use Rattle.qz_lexer.specs.Lexemes.{Lexeme, Lexes}
use Rattle.qz_lexer.specs.declared.faults.LexFault.{LexFault}
use Rattle.qz_lexer.specs.declared.faults.LexFault.TheVariants as lex
use Rattle.qz_phrases.specs.declared.words.Spot.{Spot}
use Rattle.qz_reader.specs.Texts.{IsFile, most, IsParse, IsDeep}
use Rattle.qz_syntax.specs.declared.files.File.{File}
use Rattle.qz_source.specs.declared.faults.SourceFault.{SourceFault}
use Rattle.qz_source.specs.declared.faults.SourceFault.TheVariants as fault
use Rattle.qz_source.specs.Spots.{spot_of}

-- the bytes are UTF-8 of characters that are cut into tokens, and these are the words that the tokens say
pub record HasWords (bytes : List ℕ) (words : List Spot) : Type 0 where
  pub utf8 : IsUtf8 bytes
  pub tokens : List Lexeme
  pub lexed : Lexes (chars bytes) (Ok tokens)
  pub said : words ≡ map spot_of tokens

-- the bytes spell this file, of which no level is above 128
pub record IsSource (bytes : List ℕ) (f : File) : Type 0 where
  pub words : List Spot
  pub has : HasWords bytes words
  pub spelled : IsFile most words f

-- the bytes are UTF-8, and at this offset no token, white space or comment begins after those before it
pub record IsNotCut (bytes : List ℕ) (offset : ℕ) : Type 0 where
  pub utf8 : IsUtf8 bytes
  pub stuck : Lexes (chars bytes) (Err offset)

-- the offset of the word of this number, and after the last word the text's length
abbrev pub offset_at : ℕ → List Spot → ℕ → ℕ
offset_at end [] number = end
offset_at end (spot ∷ spots) zero = spot.at
offset_at end (spot ∷ spots) (suc number) = offset_at end spots number

-- the word at this offset is the first with which no file begins
pub record IsParseAt (words : List Spot) (end offset : ℕ) : Type 0 where
  pub number : ℕ
  pub wrong : IsParse words number
  pub place : offset ≡ offset_at end words number

-- the word at this offset is the first with which no file within the levels begins, but one with more levels does
pub record IsDeepAt (words : List Spot) (end offset : ℕ) : Type 0 where
  pub number : ℕ
  pub wrong : IsDeep words number
  pub place : offset ≡ offset_at end words number

-- what is at fault in the words of a text of this length
abbrev pub IsWordsFault : List Spot → ℕ → SourceFault → Type 0
IsWordsFault words end (fault.NotUtf8 offset) = ⊥
IsWordsFault words end (fault.Lex offset) = ⊥
IsWordsFault words end (fault.Parse offset) = IsParseAt words end offset
IsWordsFault words end (fault.Deep offset) = IsDeepAt words end offset
IsWordsFault words end fault.Memory = Unit {0}

-- what is at fault in bytes that have no words
abbrev pub IsNoWords : List ℕ → SourceFault → Type 0
IsNoWords bytes (fault.NotUtf8 offset) = IsValidUpTo bytes offset
IsNoWords bytes (fault.Lex offset) = IsNotCut bytes offset
IsNoWords bytes (fault.Parse offset) = ⊥
IsNoWords bytes (fault.Deep offset) = ⊥
IsNoWords bytes fault.Memory = Unit {0}

-- the bytes have words, of which this is the fault
pub record HasFault (bytes : List ℕ) (why : SourceFault) : Type 0 where
  pub words : List Spot
  pub has : HasWords bytes words
  pub wrong : IsWordsFault words (length bytes) why

-- The first fault of bytes that spell no file: no UTF-8, then no tokens, then words that are no file. Memory may
-- run out on any bytes.
abbrev pub IsSourceFault : List ℕ → SourceFault → Type 0
IsSourceFault bytes (fault.NotUtf8 offset) = IsValidUpTo bytes offset
IsSourceFault bytes (fault.Lex offset) = IsNotCut bytes offset
IsSourceFault bytes (fault.Parse offset) = HasFault bytes (fault.Parse offset)
IsSourceFault bytes (fault.Deep offset) = HasFault bytes (fault.Deep offset)
IsSourceFault bytes fault.Memory = Unit {0}

-- the fault that a fault of the lexer is
abbrev pub source_fault_of : LexFault → SourceFault
source_fault_of (lex.At offset) = fault.Lex offset
source_fault_of lex.Memory = fault.Memory
