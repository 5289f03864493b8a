-- What a token says to the grammar: a function of its kind and its bytes alone.
use Rattle.std.specs.Prelude.{◌≡◌, ℕ, ◌≤◌, List, ◌∷◌, ◌++◌, length, drop, ◌==◌}
use Rattle.std.specs.List.{before_first, after_first}
use Rattle.std.specs.Str.{chars}
use Rattle.std.specs.Str.Parse.{AllDigits, digits_value}
use Rattle.qz_syntax.specs.Spelling.{IsName}
use Rattle.qz_lexer.specs.declared.tokens.TokenKind.{TokenKind}
use Rattle.qz_lexer.specs.declared.tokens.TokenKind.TheVariants as kind
use Rattle.qz_lexer.specs.Lexemes.{Lexeme}
use Rattle.qz_phrases.specs.declared.words.Word.{Word}
use Rattle.qz_phrases.specs.declared.words.Word.TheVariants as word
use Rattle.qz_phrases.specs.declared.words.Spot.{Spot}
use Rattle.qz_source.specs.Marks.{keywords, signs, mark_in}

-- in a literal, the digits before the quote, and those after the quote and the `d`
abbrev pub literal_width : List ℕ → List ℕ
literal_width bytes = before_first (λ b. b == 39) bytes

abbrev pub literal_value : List ℕ → List ℕ
literal_value bytes = drop 1 (after_first (λ b. b == 39) bytes)

-- the word that a token of this kind with these bytes says
abbrev pub word_said : TokenKind → List ℕ → Word
word_said kind.Name bytes = word.Name (chars bytes)
word_said kind.Keyword bytes = word.Mark (mark_in keywords bytes)
word_said kind.Number bytes = word.Number (digits_value 10 bytes)
word_said kind.Literal bytes = word.Literal (digits_value 10 (literal_width bytes)) (digits_value 10 (literal_value bytes))
word_said kind.Sign bytes = word.Mark (mark_in signs bytes)

abbrev pub word_of : Lexeme → Word
word_of token = word_said token.kind token.text

-- the word with its offset
abbrev pub spot_of : Lexeme → Spot
spot_of token = record { word = word_of token; at = token.offset }

-- 1 to 20 decimal digits
pub record IsNumberText (bytes : List ℕ) : Type 0 where
  pub digits : AllDigits 10 bytes
  pub some : 1 ≤ length bytes
  pub short : length bytes ≤ 20

-- a number, `'d` and a number
pub record IsLiteralText (bytes : List ℕ) : Type 0 where
  pub width : List ℕ
  pub value : List ℕ
  pub spelled : bytes ≡ width ++ (39 ∷ 100 ∷ value)
  pub is_width : IsNumberText width
  pub is_value : IsNumberText value

-- what the bytes of a token of the lexer are, by its kind
abbrev pub IsTextOf : TokenKind → List ℕ → Type 0
IsTextOf kind.Name bytes = IsName (chars bytes)
IsTextOf kind.Number bytes = IsNumberText bytes
IsTextOf kind.Literal bytes = IsLiteralText bytes
IsTextOf kind.Keyword bytes = Unit {0}
IsTextOf kind.Sign bytes = Unit {0}

abbrev pub IsTokenText : Lexeme → Type 0
IsTokenText token = IsTextOf token.kind token.text
