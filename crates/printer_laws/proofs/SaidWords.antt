-- The words of a source are such as texts say.
use Rattle.std.proofs.Common.{◌≡◌, ℕ, ◌+◌, ◌^◌, ◌<◌, true, IsFalse, List, [], ◌∷◌, ◌++◌, map, Option, Some, None, encode_utf8_all, sym, ap, ◌∙◌, subst, arith}
use Rattle.std.specs.Str.{chars, all_scalars}
use Rattle.std.specs.Str.Parse.{AllDigits, digits_value}
use Rattle.std.proofs.lemmas.Bool.Decides.{nat_tests}
use Rattle.std.proofs.lemmas.Fmt.{IsAscii-from_digits}
use Rattle.std.proofs.lemmas.Str.{chars-encodes, scalars-chars, encodes-IsAscii, IsAscii-append}
use Rattle.std.proofs.lemmas.Str.Ascii.{IsAscii-cons}
use Rattle.std.proofs.lemmas.Str.Parse.{digits_value_short}
use Rattle.qz_lexer.specs.declared.tokens.TokenKind.{TokenKind}
use Rattle.qz_lexer.specs.declared.tokens.TokenKind.TheVariants as kind
use Rattle.qz_lexer.specs.Words.{IsWord, IsNumber, IsLiteral, is_reserved as lexer_reserves}
use Rattle.qz_lexer.specs.Pieces.{IsPiece, Piece, Cuts}
use Rattle.qz_lexer.specs.Lexemes.{Lexeme, lexeme_at, lexemes, byte_count}
use Rattle.qz_syntax.specs.Spelling.{IsName, is_reserved}
use Rattle.qz_phrases.specs.declared.words.Word.TheVariants as word
use Rattle.qz_phrases.specs.declared.words.Spot.{Spot}
use Rattle.qz_source.specs.Spots.{word_said, spot_of, literal_width, literal_value}
use Rattle.qz_source.specs.Sources.{HasWords}
use Rattle.qz_source.proofs.Numerals.{own, are_digits}
use Rattle.qz_source.proofs.TokenTexts.{scalars_parts, same_reserved}
use Rattle.printer_laws.proofs.Keeping.{IsSaid, Fine}
use Rattle.printer_laws.proofs.WordPieces.{width_before, value_behind}

word_is_name : (text rest : List ℕ) → IsWord text rest → IsFalse (lexer_reserves text) → IsName text
word_is_name [] rest is plain = absurd is
word_is_name (c ∷ cs) rest is plain =
    let free : IsFalse (is_reserved (c ∷ cs)) = subst IsFalse (same_reserved (c ∷ cs)) plain in
    grind (arith, nat_tests, is.0, is.1.each, is.2, free)

abbrev digits_in : (digits rest : List ℕ) → IsNumber digits rest → AllDigits 10 digits
digits_in digits rest is = are_digits digits is.0.each

low : (digits rest : List ℕ) → IsNumber digits rest → digits_value 10 digits < 10 ^ 20
low digits rest is = digits_value_short own digits 20 (digits_in digits rest is) is.2

literal_said : (text rest : List ℕ) → IsLiteral text rest → IsSaid (word_said kind.Literal (encode_utf8_all text))
literal_said text rest is =
    let value = is.is_value.digits in
    let digits = digits_in is.width (is.value ++ rest) is.is_width in
    let spelled : text ≡ is.width ++ 39 ∷ 100 ∷ value = is.spelled ∙ ap (λ l. is.width ++ l) is.is_value.spelled in
    let ascii = IsAscii-append is.width (39 ∷ 100 ∷ value) (IsAscii-from_digits is.width digits)
    (IsAscii-cons 39 (100 ∷ value) (omega arith) (IsAscii-cons 100 value (omega arith) (IsAscii-from_digits value (digits_in value rest is.is_value.number)))) in
    let bytes : encode_utf8_all text ≡ is.width ++ 39 ∷ 100 ∷ value = ap encode_utf8_all spelled ∙ encodes-IsAscii (is.width ++ 39 ∷ 100 ∷ value) ascii in (
      subst (λ ds. digits_value 10 ds < 10 ^ 20) (sym (ap literal_width bytes ∙ width_before is.width (100 ∷ value) digits)) (low is.width (is.value ++ rest) is.is_width),
      subst (λ ds. digits_value 10 ds < 10 ^ 20) (sym (ap literal_value bytes ∙ value_behind is.width value digits)) (low value rest is.is_value.number),
    )

piece_said : (k : TokenKind) (text rest : List ℕ) → all_scalars text ≡ true → IsPiece (Some k) text rest → IsSaid (word_said k (encode_utf8_all text))
piece_said kind.Name text rest scalars is = subst (λ n. IsSaid (word.Name n)) (sym (chars-encodes text scalars)) (word_is_name text rest is.0 is.1, scalars)
piece_said kind.Keyword text rest scalars is = tt
piece_said kind.Number text rest scalars is =
    subst (λ ds. digits_value 10 ds < 10 ^ 20) (sym (encodes-IsAscii text (IsAscii-from_digits text (digits_in text rest is)))) (low text rest is)
piece_said kind.Literal text rest scalars is = literal_said text rest is
piece_said kind.Sign text rest scalars is = tt

one_more : (offset : ℕ) (k : Option TokenKind) (text rest : List ℕ) (more : List Lexeme) → all_scalars text ≡ true → IsPiece k text rest → Fine (map spot_of more)
    → Fine (map spot_of (lexeme_at offset k (encode_utf8_all text) ++ more))
one_more offset None text rest more scalars is fine = fine
one_more offset (Some k) text rest more scalars is fine = (piece_said k text rest scalars is, fine)

pieces_fine : (text : List ℕ) (pieces : List Piece) (rest : List ℕ) (offset : ℕ) → all_scalars text ≡ true → Cuts text pieces rest → Fine (map spot_of (lexemes offset pieces))
pieces_fine text [] rest offset scalars cuts = tt
pieces_fine text (piece ∷ pieces) rest offset scalars cuts =
    let parts = scalars_parts piece.text cuts.0 (subst (λ l. all_scalars l ≡ true) cuts.1 scalars) in
    one_more offset piece.kind piece.text cuts.0 (lexemes (offset + byte_count piece.text) pieces) parts.0 cuts.2.is
    (pieces_fine cuts.0 pieces rest (offset + byte_count piece.text) parts.1 cuts.3)

pub said_words : (bytes : List ℕ) (words : List Spot) → HasWords bytes words → Fine words
said_words bytes words has =
    subst Fine (sym (has.said ∙ ap (λ ts. map spot_of ts) has.lexed.2)) (pieces_fine (chars bytes) has.lexed.0 [] 0 (scalars-chars bytes has.utf8) has.lexed.1)
