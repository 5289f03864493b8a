-- Which bytes the parts of a text have.
use Rattle.std.proofs.Common.{◌≡◌, ℕ, zero, suc, ◌<◌, ◌≤◌, ◌%◌, ◌/◌, Bool, true, false, not, ◌==◌, List, [], ◌∷◌, ◌++◌, refl, ap, arith, codes, cond}
use Rattle.std.specs.List.{list_all}
use Rattle.std.specs.Fmt.{digits, digits_onto, digit_glyph, decimal}
use Rattle.std.proofs.lemmas.Bool.{and_parts, and_from, not_from_false, false_from_ne_true, eqb-true}
use Rattle.std.proofs.lemmas.Bool.Decides.{nat_tests}
use Rattle.qz_vtext.specs.Names.{is_plain, character_text, name_text}
use Rattle.qz_vread.specs.Parts.{is_word, lacks}

abbrev pub all_words : List ℕ → Bool
all_words bytes = list_all is_word bytes

pub all-append : (p : ℕ → Bool) (a b : List ℕ) → list_all p a ≡ true → list_all p b ≡ true → list_all p (a ++ b) ≡ true
all-append p [] b x y = y
all-append p (c ∷ cs) b x y =
    let parts = and_parts (p c) (list_all p cs) x in
    and_from (p c) (list_all p (cs ++ b)) parts.0 (all-append p cs b parts.1 y)

glyph_is_word : (d : ℕ) → d < 16 → is_word (digit_glyph false d) ≡ true
glyph_is_word d small = grind (arith, nat_tests)

digits_onto_words : (k base n : ℕ) (acc : List ℕ) → 0 < base → base ≤ 16 → all_words acc ≡ true → all_words (digits_onto k base false n acc) ≡ true
digits_onto_words zero base n acc low high so_far = so_far
digits_onto_words (suc k) base n acc low high so_far =
    let more : all_words (digit_glyph false (n % base) ∷ acc) ≡ true =
    and_from (is_word (digit_glyph false (n % base))) (all_words acc) (glyph_is_word (n % base) (omega arith)) so_far in
    let P : Bool → Type 0 = λ b. all_words (cond b (digit_glyph false (n % base) ∷ acc) (digits_onto k base false (n / base) (digit_glyph false (n % base) ∷ acc))) ≡ true in
    elim (n / base == 0) as P [
      | true ↦ more
      | false ↦ digits_onto_words k base (n / base) (digit_glyph false (n % base) ∷ acc) low high more
    ]

pub digits_words : (base n : ℕ) → 0 < base → base ≤ 16 → all_words (digits base false n) ≡ true
unfolding digits
digits_words base n low high = digits_onto_words 64 base n [] low high refl

pub decimal_words : (n : ℕ) → all_words (decimal n) ≡ true
decimal_words n = digits_words 10 n (omega arith) (omega arith)

character_words : (c : ℕ) → all_words (character_text c) ≡ true
character_words c = by (is_plain c) refl
  where
    code : all_words (codes "$" ++ (digits 16 false c ++ codes "$")) ≡ true
    code = all-append is_word (digits 16 false c) (codes "$") (digits_words 16 c (omega arith) (omega arith)) refl

    by : (b : Bool) → is_plain c ≡ b → all_words (cond b (c ∷ []) (codes "$" ++ (digits 16 false c ++ codes "$"))) ≡ true
    by true e = rw e refl
    by false e = code

pub name_words : (name : List ℕ) → all_words (name_text name) ≡ true
name_words [] = refl
name_words (c ∷ cs) = all-append is_word (character_text c) (name_text cs) (character_words c) (name_words cs)

-- what has words alone has no other byte
pub words_lack : (mark : ℕ) (bytes : List ℕ) → is_word mark ≡ false → all_words bytes ≡ true → lacks mark bytes ≡ true
words_lack mark [] other words = refl
words_lack mark (b ∷ bs) other words =
    let parts = and_parts (is_word b) (all_words bs) words in
    and_from (not (b == mark)) (lacks mark bs)
    (not_from_false (b == mark) (false_from_ne_true (b == mark) (λ same. apart b mark (eqb-true b mark same) parts.0 other)))
    (words_lack mark bs other parts.1)
  where
    apart : (b m : ℕ) → b ≡ m → is_word b ≡ true → is_word m ≡ false → ⊥
    apart b m e w o = let same = ap is_word e in cc
