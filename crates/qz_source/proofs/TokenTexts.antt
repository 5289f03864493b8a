-- The bytes of a token of the lexer, by its kind.
use Rattle.std.proofs.Common.{◌≡◌, ℕ, ◌+◌, true, IsFalse, List, [], ◌∷◌, ◌++◌, map, Option, Some, None, Ok, All, encode_utf8_all, IsUtf8, refl, sym, ap, ◌∙◌, subst, arith}
use Rattle.std.specs.List.{AllByRecursion, list_any}
use Rattle.std.specs.Str.{chars, bytes_eq, all_scalars, IsAscii}
use Rattle.std.proofs.lemmas.Bool.Decides.{nat_tests}
use Rattle.std.proofs.lemmas.List.Elements.{All-from_recursion, recursion_from_All}
use Rattle.std.proofs.lemmas.Fmt.{IsAscii-from_digits}
use Rattle.std.proofs.lemmas.Str.{chars-encodes, scalars-chars, encodes-IsAscii, IsAscii-append}
use Rattle.std.proofs.lemmas.Str.Ascii.{IsAscii-cons}
use Rattle.qz_lexer.specs.declared.tokens.Token.{Token}
use Rattle.qz_lexer.specs.declared.tokens.TokenKind.{TokenKind}
use Rattle.qz_lexer.specs.declared.tokens.TokenKind.TheVariants as kind
use Rattle.qz_lexer.specs.Words.{IsWord, IsNumber, IsLiteral, reserved_words as lexer_words, is_reserved as lexer_reserves}
use Rattle.qz_lexer.specs.Pieces.{IsPiece, Piece, Cuts}
use Rattle.qz_lexer.specs.Lexemes.{Lexeme, lexeme, lexeme_at, lexemes, byte_count, Lexes}
use Rattle.qz_syntax.specs.Spelling.{IsName, reserved_words, is_reserved}
use Rattle.qz_source.specs.Spots.{IsNumberText, IsLiteralText, IsTextOf, IsTokenText}
use Rattle.qz_source.proofs.Numerals.{are_digits}

-- characters of two texts
pub scalars_parts : (xs ys : List ℕ) → all_scalars (xs ++ ys) ≡ true → (all_scalars xs ≡ true) × (all_scalars ys ≡ true)
scalars_parts [] ys h = (refl, h)
scalars_parts (x ∷ xs) ys h =
    let rest : all_scalars (xs ++ ys) ≡ true = grind (arith, nat_tests) in
    let parts = scalars_parts xs ys rest in
    (grind (arith, nat_tests, parts.0), parts.1)

same_words : lexer_words ≡ reserved_words
unfolding lexer_words reserved_words
same_words = refl

-- the words that the lexer sets apart are those that are no names
pub same_reserved : (characters : List ℕ) → lexer_reserves characters ≡ is_reserved characters
same_reserved characters = ap (λ (words : List (List ℕ)). list_any (λ word. bytes_eq word characters) words) same_words

word_is_name : (text rest : List ℕ) → IsWord text rest → IsFalse (lexer_reserves text) → IsName text
word_is_name [] rest is plain = absurd is
word_is_name (c ∷ cs) rest is plain =
    let free : IsFalse (is_reserved (c ∷ cs)) = subst IsFalse (same_reserved (c ∷ cs)) plain in
    grind (arith, nat_tests, is.0, is.1.each, is.2, free)

number_text : (digits rest : List ℕ) → IsNumber digits rest → IsNumberText digits
number_text digits rest is = record { digits = are_digits digits is.0.each; some = is.1; short = is.2 }

number_ascii : (digits : List ℕ) → IsNumberText digits → IsAscii digits
number_ascii digits is = IsAscii-from_digits digits is.digits

literal_text : (text rest : List ℕ) → IsLiteral text rest → IsLiteralText text
literal_text text rest is = record {
  width = is.width;
  value = is.is_value.digits;
  spelled = is.spelled ∙ ap (λ l. is.width ++ l) is.is_value.spelled;
  is_width = number_text is.width (is.value ++ rest) is.is_width;
  is_value = number_text is.is_value.digits rest is.is_value.number;
}

literal_ascii : (text : List ℕ) → IsLiteralText text → IsAscii text
literal_ascii text is =
    let value = IsAscii-cons 39 (100 ∷ is.value) (omega arith) (IsAscii-cons 100 is.value (omega arith) (number_ascii is.value is.is_value)) in
    subst IsAscii (sym is.spelled) (IsAscii-append is.width (39 ∷ 100 ∷ is.value) (number_ascii is.width is.is_width) value)

-- the bytes of a piece that is a token
piece_text : (k : TokenKind) (text rest : List ℕ) → all_scalars text ≡ true → IsPiece (Some k) text rest → IsTextOf k (encode_utf8_all text)
piece_text kind.Name text rest scalars is = subst IsName (sym (chars-encodes text scalars)) (word_is_name text rest is.0 is.1)
piece_text kind.Keyword text rest scalars is = tt
piece_text kind.Number text rest scalars is =
    let number = number_text text rest is in
    subst IsNumberText (sym (encodes-IsAscii text (number_ascii text number))) number
piece_text kind.Literal text rest scalars is =
    let literal = literal_text text rest is in
    subst IsLiteralText (sym (encodes-IsAscii text (literal_ascii text literal))) literal
piece_text kind.Sign text rest scalars is = tt

one_more : (offset : ℕ) (k : Option TokenKind) (text rest : List ℕ) (more : List Lexeme) → all_scalars text ≡ true → IsPiece k text rest → AllByRecursion IsTokenText more → AllByRecursion IsTokenText (lexeme_at offset k (encode_utf8_all text) ++ more)
one_more offset None text rest more scalars is all = all
one_more offset (Some k) text rest more scalars is all = (piece_text k text rest scalars is, all)

all_texts : (text : List ℕ) (pieces : List Piece) (rest : List ℕ) (offset : ℕ) → all_scalars text ≡ true → Cuts text pieces rest → AllByRecursion IsTokenText (lexemes offset pieces)
all_texts text [] rest offset scalars cuts = tt
all_texts text (piece ∷ pieces) rest offset scalars cuts =
    let parts = scalars_parts piece.text cuts.0 (subst (λ l. all_scalars l ≡ true) cuts.1 scalars) in
    one_more offset piece.kind piece.text cuts.0 (lexemes (offset + byte_count piece.text) pieces) parts.0 cuts.2.is
    (all_texts cuts.0 pieces rest (offset + byte_count piece.text) parts.1 cuts.3)

-- the tokens of a text have the texts of their kinds
token_texts : (bytes : List ℕ) (tokens : List Lexeme) → IsUtf8 bytes → Lexes (chars bytes) (Ok tokens) → All IsTokenText tokens
token_texts bytes tokens utf8 lexed =
    subst (All IsTokenText) (sym lexed.2) (All-from_recursion IsTokenText (lexemes 0 lexed.0) (all_texts (chars bytes) lexed.0 [] 0 (scalars-chars bytes utf8) lexed.1))

by_token : (tokens : List Token) → AllByRecursion IsTokenText (map lexeme tokens) → AllByRecursion (λ token. IsTokenText (lexeme token)) tokens
by_token [] all = tt
by_token (token ∷ tokens) all = (all.0, by_token tokens all.1)

pub each_token : (bytes text : List ℕ) (tokens : List Token) → text ≡ bytes → IsUtf8 bytes → Lexes (chars text) (Ok (map lexeme tokens)) → All (λ token. IsTokenText (lexeme token)) tokens
each_token bytes text tokens same utf8 lexed =
    All-from_recursion (λ token. IsTokenText (lexeme token)) tokens
    (by_token tokens (recursion_from_All IsTokenText (map lexeme tokens) (token_texts bytes (map lexeme tokens) utf8 (subst (λ t. Lexes (chars t) (Ok (map lexeme tokens))) same lexed))))
