-- A text's bytes and its characters.
use Rattle.std.proofs.Common.{◌≡◌, ℕ, ◌+◌, ◌-◌, ◌<◌, ◌≤◌, List, [], ◌∷◌, ◌++◌, length, take, sym, refl, ap, ◌∙◌, subst, arith, IsUtf8, encode_utf8_all, length-append}
use Rattle.std.specs.Char.{encode_utf8}
use Rattle.std.specs.Str.{chars, IsCharBoundary}
use Rattle.std.proofs.Math.Seq.{take-append_seam}
use Rattle.std.proofs.lemmas.List.{append_cancel_right}
use Rattle.std.proofs.lemmas.Str.{chars-nil, chars_past_char, chars-append, encodes-chars, encodes-append, encode_ascii, length-encode, len_utf8_bounds, IsUtf8-past_char, IsUtf8-take, IsCharBoundary-at_seam}

-- a step over a character
pub shorter_by_char : (c : ℕ) (old new : List ℕ) → old ≡ encode_utf8 c ++ new → length new + 1 ≤ length old
shorter_by_char c old new e =
    omega (arith, ap length e, length-append (encode_utf8 c) new, length-encode c, (len_utf8_bounds c).0)

pub chars_empty : (bs : List ℕ) → length bs ≡ 0 → chars bs ≡ []
chars_empty [] e = chars-nil
chars_empty (b ∷ bs) e = absurd (omega arith)

-- a first character that is ASCII is a byte
pub chars_ascii : (bs rest : List ℕ) (c : ℕ) → c < 128 → IsUtf8 bs → bs ≡ c ∷ rest → chars bs ≡ c ∷ chars rest
chars_ascii bs rest c small u e = chars_past_char bs rest c u (e ∙ ap (λ l. l ++ rest) (sym (encode_ascii c small)))

-- what the bytes are, by a split of the characters
pub bytes_split : (bs cs ds : List ℕ) → IsUtf8 bs → chars bs ≡ cs ++ ds → bs ≡ encode_utf8_all cs ++ encode_utf8_all ds
bytes_split bs cs ds u e = sym (encodes-chars bs u) ∙ ap encode_utf8_all e ∙ encodes-append cs ds

-- the same, where what follows is a text
pub bytes_before : (bs rest cs : List ℕ) → IsUtf8 bs → IsUtf8 rest → chars bs ≡ cs ++ chars rest → bs ≡ encode_utf8_all cs ++ rest
bytes_before bs rest cs u v e = bytes_split bs cs (chars rest) u e ∙ ap (λ l. encode_utf8_all cs ++ l) (encodes-chars rest v)

-- a text of two ASCII bytes and more, by its characters
pub chars_two : (a b : ℕ) (bs rest : List ℕ) → a < 128 → b < 128 → IsUtf8 bs → bs ≡ a ∷ b ∷ rest → chars bs ≡ a ∷ b ∷ chars rest
chars_two a b bs rest small_a small_b u e =
    let after : IsUtf8 (b ∷ rest) = IsUtf8-past_char bs (b ∷ rest) a u (e ∙ ap (λ l. l ++ (b ∷ rest)) (sym (encode_ascii a small_a))) in
    chars_ascii bs (b ∷ rest) a small_a u e ∙ ap (λ l. a ∷ l) (chars_ascii (b ∷ rest) rest b small_b after refl)

-- the bytes of two ASCII characters and more
pub encodes_two : (a b : ℕ) (cs : List ℕ) → a < 128 → b < 128 → encode_utf8_all (a ∷ b ∷ cs) ≡ a ∷ b ∷ encode_utf8_all cs
encodes_two a b cs small_a small_b = (λ i. encode_ascii a small_a i ++ (encode_ascii b small_b i ++ encode_utf8_all cs))

pub not_two : (a b : ℕ) (bs : List ℕ) → a < 128 → b < 128 → IsUtf8 bs → ((rest : List ℕ) → bs ≡ a ∷ b ∷ rest → ⊥) → (cs : List ℕ) → chars bs ≡ a ∷ b ∷ cs → ⊥
not_two a b bs small_a small_b u none cs e =
    none (encode_utf8_all cs) (sym (encodes-chars bs u) ∙ ap encode_utf8_all e ∙ encodes_two a b cs small_a small_b)

pub utf8_past_two : (a b : ℕ) (bs rest : List ℕ) → a < 128 → b < 128 → IsUtf8 bs → bs ≡ a ∷ b ∷ rest → IsUtf8 rest
utf8_past_two a b bs rest small_a small_b u e =
    let after : IsUtf8 (b ∷ rest) = IsUtf8-past_char bs (b ∷ rest) a u (e ∙ ap (λ l. l ++ (b ∷ rest)) (sym (encode_ascii a small_a))) in
    IsUtf8-past_char (b ∷ rest) rest b after (ap (λ l. l ++ rest) (sym (encode_ascii b small_b)))

-- a text may be cut where the rest of it begins, and what is before the cut are the bytes of the front's characters
pub seam : (bs rest cs : List ℕ) → IsUtf8 bs → IsUtf8 rest → chars bs ≡ cs ++ chars rest → IsCharBoundary bs (length bs - length rest)
seam bs rest cs u v e =
    let split = bytes_before bs rest cs u v e in
    let at : length (encode_utf8_all cs) ≡ length bs - length rest = omega (arith, ap length split, length-append (encode_utf8_all cs) rest) in
    subst (IsCharBoundary bs) at (IsCharBoundary-at_seam bs (encode_utf8_all cs) rest split v)

pub front_bytes : (bs rest cs : List ℕ) → IsUtf8 bs → IsUtf8 rest → chars bs ≡ cs ++ chars rest → take (length bs - length rest) bs ≡ encode_utf8_all cs
front_bytes bs rest cs u v e =
    let split = bytes_before bs rest cs u v e in
    let at : length bs - length rest ≡ length (encode_utf8_all cs) = omega (arith, ap length split, length-append (encode_utf8_all cs) rest) in
    (λ i. take (at i) (split i)) ∙ take-append_seam (encode_utf8_all cs) rest

pub front_chars : (bs rest cs : List ℕ) → IsUtf8 bs → IsUtf8 rest → chars bs ≡ cs ++ chars rest → chars (take (length bs - length rest) bs) ≡ cs
front_chars bs rest cs u v e =
    let front = take (length bs - length rest) bs in
    let at = seam bs rest cs u v e in
    let split : front ++ rest ≡ bs = ap (λ l. l ++ rest) (front_bytes bs rest cs u v e) ∙ sym (bytes_before bs rest cs u v e) in
    append_cancel_right (chars front) cs (chars rest)
    (sym (chars-append front rest (IsUtf8-take bs (length bs - length rest) u at)) ∙ ap chars split ∙ e)

-- a text with a byte has a character
pub chars_some : (bs : List ℕ) → IsUtf8 bs → (length bs ≡ 0 → ⊥) → chars bs ≡ [] → ⊥
chars_some bs u some none = some (ap length (sym (encodes-chars bs u) ∙ ap encode_utf8_all none))
