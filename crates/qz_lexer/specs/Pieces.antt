-- How a text is made of pieces: tokens, white space and comments, each the longest that begins at its place.
use Rattle.std.specs.Prelude.{◌≡◌, ℕ, ◌≤◌, List, [], ◌∷◌, ◌++◌, length, IsTrue, IsFalse, Option, Some, None}
use Rattle.qz_lexer.specs.declared.tokens.TokenKind.{TokenKind}
use Rattle.qz_lexer.specs.declared.tokens.TokenKind.TheVariants.{Name, Keyword, Number, Literal, Sign}
use Rattle.qz_lexer.specs.Words.{IsWord, is_reserved, IsNumber, IsLiteral, is_sign}
use Rattle.qz_lexer.specs.Blanks.{IsBlank}
use Rattle.qz_lexer.specs.Runs.{Takes, Lacks}

-- the text, before the rest, is a token of the kind; or white space or a comment, for no kind
abbrev pub IsPiece : Option TokenKind → List ℕ → List ℕ → Type 0
IsPiece None text rest = IsBlank text rest
IsPiece (Some Name) text rest = IsWord text rest × IsFalse (is_reserved text)
IsPiece (Some Keyword) text rest = IsWord text rest × IsTrue (is_reserved text)
IsPiece (Some Number) text rest = IsNumber text rest
IsPiece (Some Literal) text rest = IsLiteral text rest
IsPiece (Some Sign) text rest = IsTrue (is_sign text)

-- the characters of a piece, and its kind
pub record Piece : Type 0 where
  pub kind : Option TokenKind
  pub text : List ℕ

-- it is a piece, and no longer one begins where it does
pub record IsLongest (piece : Piece) (rest : List ℕ) : Type 0 where
  pub is : IsPiece piece.kind piece.text rest
  pub longest : (kind : Option TokenKind) (other more : List ℕ) →
      other ++ more ≡ piece.text ++ rest → IsPiece kind other more → length other ≤ length piece.text

-- the text is these pieces in order, each the longest that begins at its place, and then the rest
abbrev pub Cuts : List ℕ → List Piece → List ℕ → Type 0
Cuts text [] rest = text ≡ rest
Cuts text (piece ∷ pieces) rest =
    (after : List ℕ) × (text ≡ piece.text ++ after) × IsLongest piece after × Cuts after pieces rest

-- no piece begins the text
abbrev pub NoneBegins : List ℕ → Type 0
NoneBegins text = (kind : Option TokenKind) → Lacks (IsPiece kind) text

-- the text begins with the longest piece of this kind, and the rest follows
abbrev pub BeginsWith : List ℕ → Option TokenKind → List ℕ → Type 0
BeginsWith text kind rest = Takes (λ piece after. IsLongest (record { kind = kind; text = piece }) after) text rest
