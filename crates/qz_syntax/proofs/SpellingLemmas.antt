-- Reserved words as bytes and as characters.
use Rattle.std.proofs.Common.{◌≡◌, ℕ, zero, suc, Bool, true, ◌||◌, nat_lt, List, [], ◌∷◌, refl, sym, ap, ap₂, ◌∙◌, arith}
use Rattle.std.proofs.lemmas.Bool.{and_parts}
use Rattle.std.proofs.lemmas.Bool.Decides.{same_from_decides, nat_tests}
use Rattle.std.proofs.lemmas.Slice.Eq.{bytes_eq-Decides}
use Rattle.std.proofs.lemmas.Str.{chars-IsAscii, encodes-chars, encodes-IsAscii}
use Rattle.std.specs.Bool.{Decides}
use Rattle.std.specs.List.{list_all, list_any}
use Rattle.std.specs.Str.{bytes_eq, chars, IsAscii, IsUtf8}
use lib.Utf8.{encodes}
use Rattle.qz_syntax.specs.Spelling.{reserved_words, is_reserved}

abbrev all_ascii : List ℕ → Bool
all_ascii bs = list_all (λ b. nat_lt b 128) bs

ascii_bytes : (bs : List ℕ) → all_ascii bs ≡ true → IsAscii bs
ascii_bytes [] h i = omega arith
ascii_bytes (b ∷ bs) h zero = let p = (and_parts (nat_lt b 128) (all_ascii bs) h).0 in grind (arith, nat_tests)
ascii_bytes (b ∷ bs) h (suc i) = ascii_bytes bs (and_parts (nat_lt b 128) (all_ascii bs) h).1 i

-- a word of ASCII is a text exactly where it is the text's characters
word_as_characters : (word text : List ℕ) → all_ascii word ≡ true → IsUtf8 text → bytes_eq word text ≡ bytes_eq word (chars text)
word_as_characters word text a u =
    let ascii = ascii_bytes word a in
    let d : Decides (bytes_eq word (chars text)) (word ≡ text) = (
      λ h. sym (encodes-IsAscii word ascii) ∙ ap encodes ((bytes_eq-Decides word (chars text)).0 h) ∙ encodes-chars text u,
      λ e. (bytes_eq-Decides word (chars text)).1 (sym (chars-IsAscii word ascii) ∙ ap chars e),
    ) in
    same_from_decides _ _ (bytes_eq-Decides word text) d

words_as_characters : (words : List (List ℕ)) (text : List ℕ) → list_all (λ word. all_ascii word) words ≡ true → IsUtf8 text
    → list_any (λ word. bytes_eq word text) words ≡ list_any (λ word. bytes_eq word (chars text)) words
words_as_characters [] text a u = refl
words_as_characters (word ∷ words) text a u =
    let p = and_parts (all_ascii word) (list_all (λ w. all_ascii w) words) a in
    ap₂ (λ x y. x || y) (word_as_characters word text p.0 u) (words_as_characters words text p.1 u)

pub reserved_as_characters : (text : List ℕ) → IsUtf8 text → list_any (λ word. bytes_eq word text) reserved_words ≡ is_reserved (chars text)
unfolding reserved_words
reserved_as_characters text u = words_as_characters reserved_words text refl u

-- two texts are one exactly where their characters are
pub texts_as_characters : (xs ys : List ℕ) → IsUtf8 xs → IsUtf8 ys → bytes_eq xs ys ≡ bytes_eq (chars xs) (chars ys)
texts_as_characters xs ys u v =
    let d : Decides (bytes_eq (chars xs) (chars ys)) (xs ≡ ys) = (
      λ h. sym (encodes-chars xs u) ∙ ap encodes ((bytes_eq-Decides (chars xs) (chars ys)).0 h) ∙ encodes-chars ys v,
      λ e. (bytes_eq-Decides (chars xs) (chars ys)).1 (ap chars e),
    ) in
    same_from_decides _ _ (bytes_eq-Decides xs ys) d
