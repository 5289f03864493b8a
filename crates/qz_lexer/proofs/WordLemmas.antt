-- Reserved words, by bytes and by characters; and what a name begins with.
use Rattle.std.proofs.Common.{◌≡◌, ℕ, ◌≤◌, Bool, true, ◌&&◌, ◌||◌, nat_lt, List, [], ◌∷◌, ◌++◌, length, IsUtf8, sym, refl, ap, ◌∙◌, bytes_eq, encode_utf8_all, Decides}
use Rattle.std.specs.List.{list_all, list_any}
use Rattle.std.specs.Str.{chars}
use Rattle.std.proofs.lemmas.Bool.{and_parts, ltb-true}
use Rattle.std.proofs.lemmas.Bool.Decides.{same_from_decides}
use Rattle.std.proofs.lemmas.Slice.Eq.{bytes_eq-Decides}
use Rattle.std.proofs.lemmas.Str.{encode_ascii, chars_from_encodes, encodes-chars}
use Rattle.unicode_ident.specs.Ident.{is_xid_continue}
use Rattle.unicode_ident.proofs.IdentLemmas.{is_xid_start-is_xid_continue}
use Rattle.qz_lexer.specs.Runs.{IsRun}
use Rattle.qz_lexer.specs.Words.{IsWord, is_reserved, reserved_words}

abbrev pub is_ascii_word : List ℕ → Bool
is_ascii_word word = list_all (λ b. nat_lt b 128) word

-- ASCII characters are their own bytes
pub ascii_encodes : (word : List ℕ) → is_ascii_word word ≡ true → encode_utf8_all word ≡ word
ascii_encodes [] ascii = refl
ascii_encodes (b ∷ word) ascii =
    let parts = and_parts (nat_lt b 128) (is_ascii_word word) ascii in
    ap (λ l. l ++ encode_utf8_all word) (encode_ascii b (ltb-true b 128 parts.0)) ∙ ap (λ l. b ∷ l) (ascii_encodes word parts.1)

-- an ASCII word is a text's bytes just where it is the text's characters
same_spelling : (word bs : List ℕ) → is_ascii_word word ≡ true → IsUtf8 bs → bytes_eq word bs ≡ bytes_eq word (chars bs)
same_spelling word bs ascii u =
    let by_bytes = bytes_eq-Decides word bs in
    let by_chars : Decides (bytes_eq word bs) (word ≡ chars bs) = (
      λ t. chars_from_encodes word bs u (ascii_encodes word ascii ∙ by_bytes.0 t),
      λ e. by_bytes.1 (sym (ascii_encodes word ascii) ∙ ap encode_utf8_all e ∙ encodes-chars bs u),
    ) in
    same_from_decides _ _ by_chars (bytes_eq-Decides word (chars bs))

any_same_spelling : (words : List (List ℕ)) (bs : List ℕ) → list_all is_ascii_word words ≡ true → IsUtf8 bs → list_any (λ word. bytes_eq word bs) words ≡ list_any (λ word. bytes_eq word (chars bs)) words
any_same_spelling [] bs ascii u = refl
any_same_spelling (word ∷ words) bs ascii u =
    let parts = and_parts (is_ascii_word word) (list_all is_ascii_word words) ascii in
    (λ i. same_spelling word bs parts.0 u i || any_same_spelling words bs parts.1 u i)

reserved_are_ascii : list_all is_ascii_word reserved_words ≡ true
unfolding reserved_words
reserved_are_ascii = refl

-- a text is a reserved word by its bytes as by its characters
pub is_reserved-bytes : (bs : List ℕ) → IsUtf8 bs → list_any (λ word. bytes_eq word bs) reserved_words ≡ is_reserved (chars bs)
is_reserved-bytes bs u = any_same_spelling reserved_words bs reserved_are_ascii u

-- the characters of a word are a whole run, its first one too
pub word_run : (word rest : List ℕ) → IsWord word rest → IsRun is_xid_continue word rest × (length word ≤ 64)
word_run [] rest is = absurd is
word_run (c ∷ cs) rest is = (
  record {
    each = ap (λ b. b && list_all is_xid_continue cs) (is_xid_start-is_xid_continue c is.0) ∙ is.1.each;
    stops = is.1.stops;
  },
  is.2,
)
