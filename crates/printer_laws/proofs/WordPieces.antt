-- The token that each word is printed as.
use Rattle.std.proofs.Common.{◌≡◌, ℕ, suc, ◌+◌, ◌^◌, ◌<◌, ◌≤◌, Bool, true, false, not, ◌&&◌, ◌==◌, nat_lt, nat_le, IsFalse, List, [], ◌∷◌, ◌++◌, length, take, drop, Some, codes, decimal, IsAscii, encode_utf8_all, lit≤, sym, refl, ap, ap₂, ◌∙◌, arith}
use Rattle.std.specs.List.{list_all, position_or_len}
use Rattle.std.specs.Str.{all_scalars}
use Rattle.std.specs.Str.Parse.{AllDigits, digits_value}
use Rattle.std.specs.Char.{is_ascii_digit, is_ascii_alphabetic}
use Rattle.std.proofs.lemmas.Bool.{and_parts, ltb-true, leb-true}
use Rattle.std.proofs.lemmas.Bool.Decides.{nat_tests}
use Rattle.std.proofs.lemmas.Fmt.{decimal_is_IsNumeral_wide, length-decimal-le_wide, IsAscii-from_digits}
use Rattle.std.proofs.lemmas.List.{take_at}
use Rattle.std.proofs.lemmas.Str.{chars-encodes, encodes-IsAscii, IsAscii-append}
use Rattle.std.proofs.lemmas.Str.Ascii.{IsAscii-cons}
use Rattle.std.proofs.lemmas.Str.Parse.{digit_from_value}
use Rattle.unicode_ident.specs.Ident.{is_xid_start, is_xid_continue}
use Rattle.unicode_ident.proofs.IdentLemmas.{is_xid_start-ascii, is_xid_start-is_xid_continue}
use Rattle.qz_lexer.specs.declared.tokens.TokenKind.{TokenKind}
use Rattle.qz_lexer.specs.declared.tokens.TokenKind.TheVariants as kind
use Rattle.qz_lexer.specs.Words.{IsWord, IsNumber, is_reserved, reserved_words, is_sign, is_single_sign, is_double_sign}
use Rattle.qz_lexer.specs.Pieces.{IsPiece}
use Rattle.qz_lexer.proofs.WordLemmas.{is_ascii_word, ascii_encodes}
use Rattle.qz_syntax.specs.Spelling.{IsName, is_spelled, is_reserved as no_name}
use Rattle.qz_phrases.specs.declared.words.Word.{Word}
use Rattle.qz_phrases.specs.declared.words.Word.TheVariants as word
use Rattle.qz_phrases.specs.declared.words.Mark.{Mark}
use Rattle.qz_phrases.specs.declared.words.Mark.TheVariants as mark
use Rattle.qz_source.specs.Marks.{keywords, signs, mark_in}
use Rattle.qz_source.specs.Spots.{word_said, literal_width, literal_value}
use Rattle.qz_source.proofs.TokenTexts.{same_reserved}
use Rattle.qz_printer.specs.Texts.{mark_text, word_text}
use Rattle.printer_laws.proofs.Keeping.{IsFine}

-- a token of this word, and that it is printed so
pub record WordPiece (w : Word) : Type 0 where
  pub kind : TokenKind
  pub text : List ℕ
  pub scalars : all_scalars text ≡ true
  pub piece : IsPiece (Some kind) text []
  pub said : word_said kind (encode_utf8_all text) ≡ w
  pub bytes : encode_utf8_all text ≡ word_text w

-- names
name_word : (n : List ℕ) → IsName n → IsWord n []
name_word [] is = absurd (cc (is))
name_word (c ∷ cs) is =
    let spelled = and_parts (is_spelled (c ∷ cs)) (nat_le (length (c ∷ cs)) 64 && not (no_name (c ∷ cs))) is in
    let parts = and_parts (is_xid_start c) (list_all (λ d. is_xid_continue d) cs) spelled.0 in
    let short = and_parts (nat_le (length (c ∷ cs)) 64) (not (no_name (c ∷ cs))) spelled.1 in
    (parts.0, record { each = parts.1; stops = tt }, leb-true (length (c ∷ cs)) 64 short.0)

not_reserved : (n : List ℕ) → IsName n → IsFalse (is_reserved n)
not_reserved n is =
    let spelled = and_parts (is_spelled n) (nat_le (length n) 64 && not (no_name n)) is in
    let short = and_parts (nat_le (length n) 64) (not (no_name n)) spelled.1 in
    same_reserved n ∙ by_cases (no_name n) short.1
  where
    by_cases : (b : Bool) → not b ≡ true → b ≡ false
    by_cases true e = sym e
    by_cases false e = refl

name_piece : (n : List ℕ) → IsName n → all_scalars n ≡ true → WordPiece (word.Name n)
name_piece n is scalars = record {
  kind = kind.Name;
  text = n;
  scalars = scalars;
  piece = (name_word n is, not_reserved n is);
  said = ap word.Name (chars-encodes n scalars);
  bytes = refl;
}

-- numbers
digit_tests : (digits : List ℕ) → AllDigits 10 digits → list_all is_ascii_digit digits ≡ true
digit_tests [] each = refl
digit_tests (c ∷ cs) each =
    let here = digit_from_value c each.0 in
    let more = digit_tests cs each.1 in
    grind (arith, nat_tests, here, more)

scalars_digits : (digits : List ℕ) → AllDigits 10 digits → all_scalars digits ≡ true
scalars_digits [] each = refl
scalars_digits (c ∷ cs) each =
    let here = digit_from_value c each.0 in
    let more = scalars_digits cs each.1 in
    grind (arith, nat_tests, here, more)

wide : (n : ℕ) → n < 10 ^ 20 → n < 10 ^ 64
wide n small = let within : 10 ^ 20 ≤ 10 ^ 64 = lit≤ tt in omega (arith, small, within)

abbrev digits_of : (n : ℕ) → n < 10 ^ 20 → AllDigits 10 (decimal n)
digits_of n small = (decimal_is_IsNumeral_wide n (wide n small)).0.1

decimal_number : (n : ℕ) → n < 10 ^ 20 → IsNumber (decimal n) []
decimal_number n small =
    (record { each = digit_tests (decimal n) (digits_of n small); stops = tt }, (decimal_is_IsNumeral_wide n (wide n small)).0.0, length-decimal-le_wide 20 n (omega arith) small (wide n small))

decimal_encodes : (n : ℕ) → n < 10 ^ 20 → encode_utf8_all (decimal n) ≡ decimal n
decimal_encodes n small = encodes-IsAscii (decimal n) (IsAscii-from_digits (decimal n) (digits_of n small))

number_piece : (n : ℕ) → n < 10 ^ 20 → WordPiece (word.Number n)
number_piece n small = record {
  kind = kind.Number;
  text = decimal n;
  scalars = scalars_digits (decimal n) (digits_of n small);
  piece = decimal_number n small;
  said = ap (λ (ds : List ℕ). word.Number (digits_value 10 ds)) (decimal_encodes n small) ∙ ap word.Number (decimal_is_IsNumeral_wide n (wide n small)).1;
  bytes = decimal_encodes n small;
}

-- literals
quote_place : (digits rest : List ℕ) → AllDigits 10 digits → position_or_len (λ b. b == 39) (digits ++ 39 ∷ rest) ≡ length digits
quote_place [] rest each = refl
quote_place (c ∷ cs) rest each =
    let here = digit_from_value c each.0 in
    let more = quote_place cs rest each.1 in
    grind (arith, nat_tests, here, more)

abbrev literal_text : ℕ → ℕ → List ℕ
literal_text w v = decimal w ++ (codes "'d" ++ decimal v)

literal_ascii : (w v : ℕ) → w < 10 ^ 20 → v < 10 ^ 20 → IsAscii (literal_text w v)
literal_ascii w v small low =
    IsAscii-append (decimal w) (39 ∷ 100 ∷ decimal v) (IsAscii-from_digits (decimal w) (digits_of w small))
    (IsAscii-cons 39 (100 ∷ decimal v) (omega arith) (IsAscii-cons 100 (decimal v) (omega arith) (IsAscii-from_digits (decimal v) (digits_of v low))))

literal_encodes : (w v : ℕ) → w < 10 ^ 20 → v < 10 ^ 20 → encode_utf8_all (literal_text w v) ≡ literal_text w v
literal_encodes w v small low = encodes-IsAscii (literal_text w v) (literal_ascii w v small low)

pub scalars_both : (xs ys : List ℕ) → all_scalars xs ≡ true → all_scalars ys ≡ true → all_scalars (xs ++ ys) ≡ true
scalars_both [] ys h k = k
scalars_both (x ∷ xs) ys h k =
    let rest : all_scalars xs ≡ true = grind (arith, nat_tests) in
    let both = scalars_both xs ys rest k in
    grind (arith, nat_tests, both)

pub width_before : (width rest : List ℕ) → AllDigits 10 width → literal_width (width ++ 39 ∷ rest) ≡ width
width_before width rest digits = ap (λ n. take n (width ++ 39 ∷ rest)) (quote_place width rest digits) ∙ take_at width (39 ∷ rest) (length width) refl

past_quote : (digits value : List ℕ) → drop 1 (drop (length digits + 1) (digits ++ 39 ∷ 100 ∷ value)) ≡ value
past_quote [] value = refl
past_quote (d ∷ digits) value =
    let more : length (d ∷ digits) + 1 ≡ suc (length digits + 1) = omega arith in
    ap (λ n. drop 1 (drop n (d ∷ (digits ++ 39 ∷ 100 ∷ value)))) more ∙ past_quote digits value

pub value_behind : (width value : List ℕ) → AllDigits 10 width → literal_value (width ++ 39 ∷ 100 ∷ value) ≡ value
value_behind width value digits = ap (λ n. drop 1 (drop (n + 1) (width ++ 39 ∷ 100 ∷ value))) (quote_place width (100 ∷ value) digits) ∙ past_quote width value

literal_piece : (w v : ℕ) → w < 10 ^ 20 → v < 10 ^ 20 → WordPiece (word.Literal w v)
literal_piece w v small low = record {
  kind = kind.Literal;
  text = literal_text w v;
  scalars = scalars_both (decimal w) (39 ∷ 100 ∷ decimal v) (scalars_digits (decimal w) (digits_of w small)) (scalars_digits (decimal v) (digits_of v low));
  piece = record {
    width = decimal w;
    value = 39 ∷ 100 ∷ decimal v;
    spelled = refl;
    is_width = (record { each = digit_tests (decimal w) (digits_of w small); stops = refl }, (decimal_is_IsNumeral_wide w (wide w small)).0.0, length-decimal-le_wide 20 w (omega arith) small (wide w small));
    is_value = record { digits = decimal v; spelled = refl; number = decimal_number v low };
  };
  said =
      ap (λ (ds : List ℕ). word.Literal (digits_value 10 (literal_width ds)) (digits_value 10 (literal_value ds))) (literal_encodes w v small low)
      ∙ ap₂ (λ (a b : List ℕ). word.Literal (digits_value 10 a) (digits_value 10 b)) (width_before (decimal w) (100 ∷ decimal v) (digits_of w small)) (value_behind (decimal w) (decimal v) (digits_of w small))
      ∙ ap₂ word.Literal (decimal_is_IsNumeral_wide w (wide w small)).1 (decimal_is_IsNumeral_wide v (wide v low)).1;
  bytes = literal_encodes w v small low;
}

-- marks
abbrev is_letter : ℕ → Bool
is_letter c = nat_lt c 128 && is_ascii_alphabetic c

abbrev is_plain : List ℕ → Bool
is_plain text = nat_le 1 (length text) && (nat_le (length text) 64 && list_all is_letter text)

letter_starts : (c : ℕ) → is_letter c ≡ true → is_xid_start c ≡ true
letter_starts c is = let parts = and_parts (nat_lt c 128) (is_ascii_alphabetic c) is in is_xid_start-ascii c (ltb-true c 128 parts.0) ∙ parts.1

letters_go_on : (cs : List ℕ) → list_all is_letter cs ≡ true → list_all is_xid_continue cs ≡ true
letters_go_on [] is = refl
letters_go_on (c ∷ cs) is =
    let parts = and_parts (is_letter c) (list_all is_letter cs) is in
    ap (λ b. b && list_all is_xid_continue cs) (is_xid_start-is_xid_continue c (letter_starts c parts.0)) ∙ letters_go_on cs parts.1

plain_word : (text : List ℕ) → is_plain text ≡ true → IsWord text []
plain_word [] is = absurd (cc (is))
plain_word (c ∷ cs) is =
    let sized = and_parts (nat_le 1 (length (c ∷ cs))) (nat_le (length (c ∷ cs)) 64 && list_all is_letter (c ∷ cs)) is in
    let rest = and_parts (nat_le (length (c ∷ cs)) 64) (list_all is_letter (c ∷ cs)) sized.1 in
    let letters = and_parts (is_letter c) (list_all is_letter cs) rest.1 in
    (letter_starts c letters.0, record { each = letters_go_on cs letters.1; stops = tt }, leb-true (length (c ∷ cs)) 64 rest.0)

scalars_ascii : (text : List ℕ) → is_ascii_word text ≡ true → all_scalars text ≡ true
scalars_ascii [] h = refl
scalars_ascii (c ∷ cs) h =
    let rest : is_ascii_word cs ≡ true = grind (arith, nat_tests) in
    let more = scalars_ascii cs rest in
    grind (arith, nat_tests, more)

keyword_piece : (m : Mark) → is_ascii_word (mark_text m) ≡ true → is_plain (mark_text m) ≡ true → is_reserved (mark_text m) ≡ true → mark_in keywords (mark_text m) ≡ m → WordPiece (word.Mark m)
keyword_piece m ascii plain reserved is = record {
  kind = kind.Keyword;
  text = mark_text m;
  scalars = scalars_ascii (mark_text m) ascii;
  piece = (plain_word (mark_text m) plain, reserved);
  said = ap (λ text. word.Mark (mark_in keywords text)) (ascii_encodes (mark_text m) ascii) ∙ ap word.Mark is;
  bytes = ascii_encodes (mark_text m) ascii;
}

sign_piece : (m : Mark) → is_ascii_word (mark_text m) ≡ true → is_sign (mark_text m) ≡ true → mark_in signs (mark_text m) ≡ m → WordPiece (word.Mark m)
sign_piece m ascii sign is = record {
  kind = kind.Sign;
  text = mark_text m;
  scalars = scalars_ascii (mark_text m) ascii;
  piece = sign;
  said = ap (λ text. word.Mark (mark_in signs text)) (ascii_encodes (mark_text m) ascii) ∙ ap word.Mark is;
  bytes = ascii_encodes (mark_text m) ascii;
}

mark_piece : (m : Mark) → IsFine (word.Mark m) → WordPiece (word.Mark m)
unfolding keywords signs reserved_words is_single_sign is_double_sign
mark_piece mark.Reserved used = absurd used
mark_piece mark.Module used = keyword_piece mark.Module refl refl refl refl
mark_piece mark.Event used = keyword_piece mark.Event refl refl refl refl
mark_piece mark.Mem used = keyword_piece mark.Mem refl refl refl refl
mark_piece mark.Bool used = keyword_piece mark.Bool refl refl refl refl
mark_piece mark.Bv used = keyword_piece mark.Bv refl refl refl refl
mark_piece mark.True used = keyword_piece mark.True refl refl refl refl
mark_piece mark.False used = keyword_piece mark.False refl refl refl refl
mark_piece mark.Nothing used = keyword_piece mark.Nothing refl refl refl refl
mark_piece mark.Pause used = keyword_piece mark.Pause refl refl refl refl
mark_piece mark.Halt used = keyword_piece mark.Halt refl refl refl refl
mark_piece mark.Await used = keyword_piece mark.Await refl refl refl refl
mark_piece mark.Immediate used = keyword_piece mark.Immediate refl refl refl refl
mark_piece mark.Next used = keyword_piece mark.Next refl refl refl refl
mark_piece mark.Emit used = keyword_piece mark.Emit refl refl refl refl
mark_piece mark.If used = keyword_piece mark.If refl refl refl refl
mark_piece mark.Else used = keyword_piece mark.Else refl refl refl refl
mark_piece mark.Do used = keyword_piece mark.Do refl refl refl refl
mark_piece mark.While used = keyword_piece mark.While refl refl refl refl
mark_piece mark.Loop used = keyword_piece mark.Loop refl refl refl refl
mark_piece mark.Every used = keyword_piece mark.Every refl refl refl refl
mark_piece mark.Weak used = keyword_piece mark.Weak refl refl refl refl
mark_piece mark.Abort used = keyword_piece mark.Abort refl refl refl refl
mark_piece mark.Suspend used = keyword_piece mark.Suspend refl refl refl refl
mark_piece mark.When used = keyword_piece mark.When refl refl refl refl
mark_piece mark.OpenParen used = sign_piece mark.OpenParen refl refl refl
mark_piece mark.CloseParen used = sign_piece mark.CloseParen refl refl refl
mark_piece mark.OpenBrace used = sign_piece mark.OpenBrace refl refl refl
mark_piece mark.CloseBrace used = sign_piece mark.CloseBrace refl refl refl
mark_piece mark.OpenBracket used = sign_piece mark.OpenBracket refl refl refl
mark_piece mark.CloseBracket used = sign_piece mark.CloseBracket refl refl refl
mark_piece mark.Comma used = sign_piece mark.Comma refl refl refl
mark_piece mark.Semicolon used = sign_piece mark.Semicolon refl refl refl
mark_piece mark.Colon used = sign_piece mark.Colon refl refl refl
mark_piece mark.Question used = sign_piece mark.Question refl refl refl
mark_piece mark.Exclamation used = sign_piece mark.Exclamation refl refl refl
mark_piece mark.Tilde used = sign_piece mark.Tilde refl refl refl
mark_piece mark.At used = sign_piece mark.At refl refl refl
mark_piece mark.Plus used = sign_piece mark.Plus refl refl refl
mark_piece mark.Minus used = sign_piece mark.Minus refl refl refl
mark_piece mark.Ampersand used = sign_piece mark.Ampersand refl refl refl
mark_piece mark.Bar used = sign_piece mark.Bar refl refl refl
mark_piece mark.Caret used = sign_piece mark.Caret refl refl refl
mark_piece mark.Equals used = sign_piece mark.Equals refl refl refl
mark_piece mark.EqualEqual used = sign_piece mark.EqualEqual refl refl refl
mark_piece mark.NotEqual used = sign_piece mark.NotEqual refl refl refl
mark_piece mark.Less used = sign_piece mark.Less refl refl refl
mark_piece mark.LessEqual used = sign_piece mark.LessEqual refl refl refl
mark_piece mark.Greater used = sign_piece mark.Greater refl refl refl
mark_piece mark.GreaterEqual used = sign_piece mark.GreaterEqual refl refl refl
mark_piece mark.Arrow used = sign_piece mark.Arrow refl refl refl
mark_piece mark.BarBar used = sign_piece mark.BarBar refl refl refl

pub word_piece : (w : Word) → IsFine w → WordPiece w
word_piece (word.Name n) fine = name_piece n fine.0 fine.1
word_piece (word.Number n) fine = number_piece n fine
word_piece (word.Literal w v) fine = literal_piece w v fine.0 fine.1
word_piece (word.Mark m) fine = mark_piece m fine
