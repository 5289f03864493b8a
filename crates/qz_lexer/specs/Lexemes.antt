-- The tokens of a text, and the first place where no piece begins.
use Rattle.std.specs.Prelude.{◌≡◌, ◌≢◌, ℕ, ◌+◌, List, [], ◌∷◌, ◌++◌, map, length, Option, Some, None, Result, Ok, Err, encode_utf8_all, slice_range}
use Rattle.std.specs.List.{flat_map}
use Rattle.qz_lexer.specs.declared.tokens.TokenKind.{TokenKind}
use Rattle.qz_lexer.specs.declared.tokens.Token.{Token}
use Rattle.qz_lexer.specs.declared.faults.LexFault.{LexFault}
use Rattle.qz_lexer.specs.declared.faults.LexFault.TheVariants.{At, Memory}
use Rattle.qz_lexer.specs.Pieces.{Piece, Cuts, NoneBegins}

-- a token as a value: its kind, its bytes, and how many bytes stand before it
pub record Lexeme : Type 0 where
  pub kind : TokenKind
  pub text : List ℕ
  pub offset : ℕ

abbrev pub lexeme : Token → Lexeme
lexeme token = record { kind = token.kind; text = token.text.now; offset = token.offset }

-- the bytes of characters
abbrev pub byte_count : List ℕ → ℕ
byte_count text = length (encode_utf8_all text)

-- the token that bytes at the offset are, if they are of a kind
abbrev pub lexeme_at : ℕ → Option TokenKind → List ℕ → List Lexeme
lexeme_at offset None bytes = []
lexeme_at offset (Some kind) bytes = record { kind = kind; text = bytes; offset = offset } ∷ []

-- the tokens among the pieces, of which the first begins at the offset
abbrev pub lexemes : ℕ → List Piece → List Lexeme
lexemes offset [] = []
lexemes offset (piece ∷ pieces) =
    lexeme_at offset piece.kind (encode_utf8_all piece.text) ++ lexemes (offset + byte_count piece.text) pieces

-- The outcome of a text: where it is all pieces, the tokens among them, and otherwise how many bytes the
-- pieces take before the first place where none begins.
abbrev pub Lexes : List ℕ → Result (List Lexeme) ℕ → Type 0
Lexes text (Ok tokens) = (pieces : List Piece) × Cuts text pieces [] × (tokens ≡ lexemes 0 pieces)
Lexes text (Err offset) = (pieces : List Piece) × (rest : List ℕ) × Cuts text pieces rest × (rest ≢ []) × NoneBegins rest
    × (offset ≡ byte_count (flat_map (λ piece. piece.text) pieces))

-- the outcome that a result tells, and none where memory ran out
abbrev pub outcome_of : {X : Type 0} → (X → List Token) → Result X LexFault → Option (Result (List Lexeme) ℕ)
outcome_of tokens (Ok x) = Some (Ok (map lexeme (tokens x)))
outcome_of tokens (Err (At offset)) = Some (Err offset)
outcome_of tokens (Err Memory) = None

-- a text has exactly one outcome: the pieces that it begins with are determined, and so are their kinds
pub record HasOneOutcome (text : List ℕ) : Type 0 where
  pub outcome : Result (List Lexeme) ℕ
  pub has : Lexes text outcome
  pub only : (other : Result (List Lexeme) ℕ) → Lexes text other → other ≡ outcome

-- the token is the slice of the text's bytes at its offset
abbrev pub IsSliceOf : List ℕ → Lexeme → Type 0
IsSliceOf bytes token = slice_range bytes token.offset (token.offset + length token.text) ≡ token.text
