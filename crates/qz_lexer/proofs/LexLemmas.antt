-- How far a text has been cut, and with which tokens.
use Rattle.std.proofs.Common.{◌≡◌, ◌≢◌, ℕ, ◌+◌, ◌<◌, ◌≤◌, List, [], ◌∷◌, ◌++◌, length, Option, Ok, Err, encode_utf8_all, IsUtf8, sym, refl, ap, ◌∙◌, subst, arith, append_assoc, length-append, add-zero, zero-add}
use Rattle.std.specs.List.{flat_map}
use Rattle.std.specs.Str.{chars}
use Rattle.std.proofs.lemmas.List.{append-nil}
use Rattle.std.proofs.lemmas.Str.{encodes-append, length-le-encodes}
use Rattle.qz_lexer.specs.declared.tokens.TokenKind.{TokenKind}
use Rattle.qz_lexer.specs.Pieces.{IsPiece, IsLongest, Piece, Cuts, BeginsWith, NoneBegins}
use Rattle.qz_lexer.specs.Lexemes.{Lexeme, lexeme_at, lexemes, byte_count, Lexes}
use Rattle.qz_lexer.proofs.StartLemmas.{no_empty_piece}
use Rattle.qz_lexer.proofs.TextLemmas.{bytes_before}

abbrev pub texts : List Piece → List ℕ
texts pieces = flat_map (λ piece. piece.text) pieces

-- the bytes of two texts
byte_count-append : (a b : List ℕ) → byte_count (a ++ b) ≡ byte_count a + byte_count b
byte_count-append a b = ap length (encodes-append a b) ∙ length-append (encode_utf8_all a) (encode_utf8_all b)

-- a text is its pieces' characters and the rest
cuts_text : (text : List ℕ) (pieces : List Piece) (rest : List ℕ) → Cuts text pieces rest → text ≡ texts pieces ++ rest
cuts_text text [] rest cuts = cuts
cuts_text text (piece ∷ pieces) rest cuts =
    cuts.1 ∙ ap (λ l. piece.text ++ l) (cuts_text cuts.0 pieces rest cuts.3) ∙ sym (append_assoc piece.text (texts pieces) rest)

-- one more piece
cuts_more : (text : List ℕ) (pieces : List Piece) (piece : Piece) (rest after : List ℕ) → Cuts text pieces rest → rest ≡ piece.text ++ after → IsLongest piece after → Cuts text (pieces ++ (piece ∷ [])) after
cuts_more text [] piece rest after cuts split longest = (after, cuts ∙ split, longest, refl)
cuts_more text (first ∷ pieces) piece rest after cuts split longest =
    (cuts.0, cuts.1, cuts.2, cuts_more cuts.0 pieces piece rest after cuts.3 split longest)

lexemes_more : (offset : ℕ) (pieces : List Piece) (piece : Piece) → lexemes offset (pieces ++ (piece ∷ [])) ≡ lexemes offset pieces ++ lexeme_at (offset + byte_count (texts pieces)) piece.kind (encode_utf8_all piece.text)
lexemes_more offset [] piece =
    append-nil (lexeme_at offset piece.kind (encode_utf8_all piece.text))
    ∙ ap (λ o. lexeme_at o piece.kind (encode_utf8_all piece.text)) (sym (add-zero offset))
lexemes_more offset (first ∷ pieces) piece =
    let head = lexeme_at offset first.kind (encode_utf8_all first.text) in
    let next = offset + byte_count first.text in
    let sum : next + byte_count (texts pieces) ≡ offset + byte_count (texts (first ∷ pieces)) =
    omega (arith, byte_count-append first.text (texts pieces)) in
    ap (λ l. head ++ l) (lexemes_more next pieces piece)
    ∙ sym (append_assoc head (lexemes next pieces) (lexeme_at (next + byte_count (texts pieces)) piece.kind (encode_utf8_all piece.text)))
    ∙ ap (λ o. (head ++ lexemes next pieces) ++ lexeme_at o piece.kind (encode_utf8_all piece.text)) sum

-- the text is cut into pieces up to the rest, and the tokens are theirs
pub record CutSoFar (text rest : List ℕ) (tokens : List Lexeme) : Type 0 where
  pub pieces : List Piece
  pub cuts : Cuts text pieces rest
  pub tokens_are : tokens ≡ lexemes 0 pieces

pub cut_none : (text : List ℕ) → CutSoFar text text []
cut_none text = record { pieces = []; cuts = refl; tokens_are = refl }

-- what has been cut, and what is left
pub split_so_far : {text rest : List ℕ} {tokens : List Lexeme} (so_far : CutSoFar text rest tokens) → text ≡ texts so_far.pieces ++ rest
split_so_far {text} {rest} so_far = cuts_text text so_far.pieces rest so_far.cuts

-- one more piece, and the token that it is
pub cut_more : (text rest after : List ℕ) (tokens more : List Lexeme) (kind : Option TokenKind) → (so_far : CutSoFar text rest tokens) → (begins : BeginsWith rest kind after) → more ≡ tokens ++ lexeme_at (byte_count (texts so_far.pieces)) kind (encode_utf8_all begins.front) → CutSoFar text after more
cut_more text rest after tokens more kind so_far begins tokens_are =
    let piece : Piece = record { kind = kind; text = begins.front } in
    record {
      pieces = so_far.pieces ++ (piece ∷ []);
      cuts = cuts_more text so_far.pieces piece rest after so_far.cuts begins.split begins.is;
      tokens_are = tokens_are ∙ ap (λ l. l ++ lexeme_at (byte_count (texts so_far.pieces)) kind (encode_utf8_all begins.front)) so_far.tokens_are
          ∙ ap (λ o. lexemes 0 so_far.pieces ++ lexeme_at o kind (encode_utf8_all begins.front)) (sym (zero-add (byte_count (texts so_far.pieces))))
          ∙ sym (lexemes_more 0 so_far.pieces piece);
    }

pub cut_all : (text rest : List ℕ) (tokens : List Lexeme) → CutSoFar text rest tokens → rest ≡ [] → Lexes text (Ok tokens)
cut_all text rest tokens so_far ended = (so_far.pieces, subst (Cuts text so_far.pieces) ended so_far.cuts, so_far.tokens_are)

pub cut_stuck : (text rest : List ℕ) (tokens : List Lexeme) → (so_far : CutSoFar text rest tokens) → rest ≢ [] → NoneBegins rest → (offset : ℕ) → offset ≡ byte_count (texts so_far.pieces) → Lexes text (Err offset)
cut_stuck text rest tokens so_far more none offset at = (so_far.pieces, rest, so_far.cuts, more, none, at)

-- a piece has a character, so what follows it has fewer bytes
some_bytes : (kind : Option TokenKind) (piece rest : List ℕ) → IsPiece kind piece rest → 1 ≤ byte_count piece
some_bytes kind [] rest is = absurd (no_empty_piece kind rest is)
some_bytes kind (c ∷ piece) rest is = omega (arith, length-le-encodes (c ∷ piece))

pub piece_shortens : (bs after : List ℕ) (kind : Option TokenKind) → IsUtf8 bs → IsUtf8 after → BeginsWith (chars bs) kind (chars after) → length after < length bs
piece_shortens bs after kind u v begins =
    let split = bytes_before bs after begins.front u v begins.split in
    omega (arith, ap length split, length-append (encode_utf8_all begins.front) after, some_bytes kind begins.front (chars after) begins.is.is)
