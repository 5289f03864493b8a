-- What a piece's first character tells of the piece.
use Rattle.std.proofs.Common.{◌≡◌, ℕ, ◌<◌, ◌≤◌, Bool, true, false, ◌&&◌, ◌||◌, ◌==◌, cond, nat_lt, List, [], ◌∷◌, ◌++◌, Option, Some, None, sym, refl, ap, ◌∙◌, arith, rules, codes, inl, inr}
use Rattle.std.specs.List.{list_all, list_any}
use Rattle.std.specs.Char.{is_ascii_digit, is_ascii_alphabetic}
use Rattle.std.proofs.lemmas.Bool.{and_parts, and_right, or_cases, both_ways, eqb-true, ne_eqb, ltb-true, lt-leb, agree_below, agree_below_at, cases_lt}
use Rattle.unicode_ident.specs.Ident.{is_xid_start}
use Rattle.unicode_ident.proofs.IdentLemmas.{is_xid_start-ascii}
use Rattle.qz_lexer.specs.declared.starts.Start.{Start}
use Rattle.qz_lexer.specs.declared.starts.Start.TheVariants.{Space, Digit, Slash, Letter, Other}
use Rattle.qz_lexer.specs.declared.tokens.TokenKind.{TokenKind}
use Rattle.qz_lexer.specs.declared.tokens.TokenKind.TheVariants.{Name, Keyword, Number, Literal, Sign}
use Rattle.qz_lexer.specs.Blanks.{is_space, IsSpace, space, comment, IsComment, line, block}
use Rattle.qz_lexer.specs.Words.{is_single_sign, is_double_sign, IsLiteral, IsNumber}
use Rattle.qz_lexer.specs.Pieces.{IsPiece}
use Rattle.qz_lexer.specs.Starts.{start_of, StartsWith}
use Rattle.qz_lexer.proofs.RunLemmas.{run_head}

-- the choice that `start_of` makes, by its tests
abbrev choice : Bool → Bool → Bool → Bool → Start
choice blank digit slash letter =
    cond blank Space (cond digit Digit (cond slash Slash (cond letter Letter Other)))

blank_from : (a b d e : Bool) → choice a b d e ≡ Space → a ≡ true
blank_from true b d e h = refl
blank_from false true d e h = cc
blank_from false false true e h = cc
blank_from false false false true h = cc
blank_from false false false false h = cc

digit_from : (a b d e : Bool) → choice a b d e ≡ Digit → b ≡ true
digit_from true b d e h = cc
digit_from false true d e h = refl
digit_from false false true e h = cc
digit_from false false false true h = cc
digit_from false false false false h = cc

letter_from : (a b d e : Bool) → choice a b d e ≡ Letter → e ≡ true
letter_from true b d e h = cc
letter_from false true d e h = cc
letter_from false false true e h = cc
letter_from false false false true h = refl
letter_from false false false false h = cc

-- what the sort of a character tells
pub space_is : (c : ℕ) → start_of c ≡ Space → is_space c ≡ true
space_is c h = blank_from _ _ _ (is_xid_start c) h

pub digit_is : (c : ℕ) → start_of c ≡ Digit → is_ascii_digit c ≡ true
digit_is c h = digit_from (is_space c) _ (c == 47) (is_xid_start c) h

pub letter_is : (c : ℕ) → start_of c ≡ Letter → is_xid_start c ≡ true
letter_is c h = letter_from (is_space c) (is_ascii_digit c) (c == 47) _ h

-- no ASCII character passes both tests
abbrev exclude : (ℕ → Bool) → (ℕ → Bool) → Bool
exclude s t = agree_below (λ c. s c && t c) (λ c. false) 128

excluded : (s t : ℕ → Bool) → exclude s t ≡ true → (c : ℕ) → c < 128 → s c ≡ true → t c ≡ false
excluded s t none c small passes =
    sym (ap (λ b. b && t c) passes) ∙ agree_below_at (λ c. s c && t c) (λ c. false) 128 c none small

no_letter : (s : ℕ → Bool) → exclude s is_ascii_alphabetic ≡ true → (c : ℕ) → c < 128 → s c ≡ true → is_xid_start c ≡ false
no_letter s none c small passes = is_xid_start-ascii c small ∙ excluded s is_ascii_alphabetic none c small passes

-- where a test passes only ASCII characters
one_of_ascii : (signs : List ℕ) → list_all (λ s. nat_lt s 128) signs ≡ true → (c : ℕ) → list_any (λ s. s == c) signs ≡ true → c < 128
one_of_ascii [] ascii c h = cc
one_of_ascii (s ∷ signs) ascii c h =
    let parts = and_parts (nat_lt s 128) (list_all (λ s. nat_lt s 128) signs) ascii in
    elim (or_cases (s == c) (list_any (λ s. s == c) signs) h) [
      | inl e ↦ (let is : s ≡ c = eqb-true s c e in let small : s < 128 = ltb-true s 128 parts.0 in omega arith)
      | inr more ↦ one_of_ascii signs parts.1 c more
    ]

pub space_start : (c : ℕ) → is_space c ≡ true → start_of c ≡ Space
space_start c h = ap (λ a. choice a (is_ascii_digit c) (c == 47) (is_xid_start c)) h

is_ascii_digit-small : (c : ℕ) → is_ascii_digit c ≡ true → c < 128
is_ascii_digit-small c h = search (rules, h)

pub digit_start : (c : ℕ) → is_ascii_digit c ≡ true → start_of c ≡ Digit
digit_start c h =
    let none = excluded is_ascii_digit is_space refl c (is_ascii_digit-small c h) h in
    (λ i. choice (none i) (h i) (c == 47) (is_xid_start c))

pub slash_start : (c : ℕ) → c ≡ 47 → start_of c ≡ Slash
slash_start c h = ap start_of h

letter_not : (s : ℕ → Bool) → exclude is_ascii_alphabetic s ≡ true → ((c : ℕ) → 128 ≤ c → s c ≡ false) → (c : ℕ) → is_xid_start c ≡ true → s c ≡ false
letter_not s none above c letter =
    elim (cases_lt c 128) [
      | inl small ↦ excluded is_ascii_alphabetic s none c small (sym (is_xid_start-ascii c small) ∙ letter)
      | inr large ↦ above c large
    ]

space_above : (c : ℕ) → 128 ≤ c → is_space c ≡ false
space_above c large =
    rw (ne_eqb c 32 (λ e. omega arith), ne_eqb c 9 (λ e. omega arith), ne_eqb c 10 (λ e. omega arith), ne_eqb c 13 (λ e. omega arith)) refl

digit_above : (c : ℕ) → 128 ≤ c → is_ascii_digit c ≡ false
digit_above c large = and_right _ _ (lt-leb c 57 (omega arith))

pub letter_start : (c : ℕ) → is_xid_start c ≡ true → start_of c ≡ Letter
letter_start c h =
    let no_space = letter_not is_space refl space_above c h in
    let no_digit = letter_not is_ascii_digit refl digit_above c h in
    let no_slash = letter_not (λ c. c == 47) refl (λ c large. ne_eqb c 47 (λ e. omega arith)) c h in
    (λ i. choice (no_space i) (no_digit i) (no_slash i) (h i))

single_small : (c : ℕ) → is_single_sign c ≡ true → c < 128
unfolding is_single_sign
single_small c h = one_of_ascii (codes "(){}[],;:?!~@+-&|^=<>") refl c h

pub sign_start : (c : ℕ) → is_single_sign c ≡ true → start_of c ≡ Other
unfolding is_single_sign
sign_start c h =
    let small = single_small c h in
    let no_space = excluded is_single_sign is_space refl c small h in
    let no_digit = excluded is_single_sign is_ascii_digit refl c small h in
    let no_slash = excluded is_single_sign (λ c. c == 47) refl c small h in
    let no_start = no_letter is_single_sign refl c small h in
    (λ i. choice (no_space i) (no_digit i) (no_slash i) (no_start i))

among_singles : (signs : List ℕ) → list_all is_single_sign signs ≡ true → (c : ℕ) → list_any (λ s. s == c) signs ≡ true → is_single_sign c ≡ true
among_singles [] all c h = cc
among_singles (s ∷ signs) all c h =
    let parts = and_parts (is_single_sign s) (list_all is_single_sign signs) all in
    elim (or_cases (s == c) (list_any (λ s. s == c) signs) h) [
      | inl e ↦ sym (ap is_single_sign (eqb-true s c e)) ∙ parts.0
      | inr more ↦ among_singles signs parts.1 c more
    ]

-- a sign of two characters begins with a sign
pub double_single : (c d : ℕ) → is_double_sign c d ≡ true → is_single_sign c ≡ true
unfolding is_single_sign is_double_sign
double_single c d h =
    let before_equals = list_any (λ s. s == c) (codes "=!<>") in
    elim (or_cases ((before_equals && (d == 61)) || ((c == 45) && (d == 62))) ((c == 124) && (d == 124)) h) [
      | inl first ↦ elim (or_cases (before_equals && (d == 61)) ((c == 45) && (d == 62)) first) [
        | inl equals ↦ among_singles (codes "=!<>") refl c (and_parts before_equals (d == 61) equals).0
        | inr arrow ↦ ap is_single_sign (eqb-true c 45 (and_parts (c == 45) (d == 62) arrow).0)
      ]
      | inr bars ↦ ap is_single_sign (eqb-true c 124 (and_parts (c == 124) (d == 124) bars).0)
    ]

-- the sorts of characters that a piece of a kind begins with
abbrev pub fits : Option TokenKind → Start → Bool
fits None Space = true
fits None Slash = true
fits None Digit = false
fits None Letter = false
fits None Other = false
fits (Some Name) Letter = true
fits (Some Name) _ = false
fits (Some Keyword) Letter = true
fits (Some Keyword) _ = false
fits (Some Number) Digit = true
fits (Some Number) _ = false
fits (Some Literal) Digit = true
fits (Some Literal) _ = false
fits (Some Sign) Other = true
fits (Some Sign) _ = false

literal_nonempty : (width value more : List ℕ) → [] ≡ width ++ value → IsNumber width more → ⊥
literal_nonempty [] value more e is = omega (arith, is.1)
literal_nonempty (d ∷ width) value more e is = cc

literal_head : (c : ℕ) (cs width value more : List ℕ) → (c ∷ cs) ≡ width ++ value → IsNumber width more → start_of c ≡ Digit
literal_head c cs [] value more e is = absurd (omega (arith, is.1))
literal_head c cs (d ∷ width) value more e is =
    let same : c ≡ d = cc in
    ap start_of same ∙ digit_start d (run_head is_ascii_digit d width more is.0)

pub no_empty_piece : (kind : Option TokenKind) (rest : List ℕ) → IsPiece kind [] rest → ⊥
no_empty_piece None rest (space h) = h
no_empty_piece None rest (comment (line h)) = (let e = h.spelled in cc)
no_empty_piece None rest (comment (block h)) = (let e = h.spelled in cc)
no_empty_piece (Some Name) rest h = h.0
no_empty_piece (Some Keyword) rest h = h.0
no_empty_piece (Some Number) rest h = omega (arith, h.1)
no_empty_piece (Some Literal) rest h = literal_nonempty h.width h.value _ h.spelled h.is_width
no_empty_piece (Some Sign) rest h = cc

pub literal_start : (c : ℕ) (cs rest : List ℕ) → IsLiteral (c ∷ cs) rest → start_of c ≡ Digit
literal_start c cs rest h = literal_head c cs h.width h.value _ h.spelled h.is_width

pub space_piece_start : (c : ℕ) (cs : List ℕ) → IsSpace (c ∷ cs) → start_of c ≡ Space
space_piece_start c [] is = space_start c is
space_piece_start c (d ∷ cs) is = absurd is

pub comment_start : (c : ℕ) (cs rest : List ℕ) → IsComment (c ∷ cs) rest → start_of c ≡ Slash
comment_start c cs rest (line h) = slash_start c (let e = h.spelled in cc)
comment_start c cs rest (block h) = slash_start c (let e = h.spelled in cc)

pub piece_start : (kind : Option TokenKind) (c : ℕ) (cs rest : List ℕ) → IsPiece kind (c ∷ cs) rest → fits kind (start_of c) ≡ true
piece_start None c cs rest (space h) = ap (fits None) (space_piece_start c cs h)
piece_start None c cs rest (comment h) = ap (fits None) (comment_start c cs rest h)
piece_start (Some Name) c cs rest h = ap (fits (Some Name)) (letter_start c h.0.0)
piece_start (Some Keyword) c cs rest h = ap (fits (Some Keyword)) (letter_start c h.0.0)
piece_start (Some Number) c cs rest h = ap (fits (Some Number)) (digit_start c (run_head is_ascii_digit c cs rest h.0))
piece_start (Some Literal) c cs rest h = ap (fits (Some Literal)) (literal_start c cs rest h)
piece_start (Some Sign) c [] rest h = ap (fits (Some Sign)) (sign_start c h)
piece_start (Some Sign) c (d ∷ []) rest h = ap (fits (Some Sign)) (sign_start c (double_single c d h))
piece_start (Some Sign) c (d ∷ e ∷ cs) rest h = cc

-- a front of a text begins as the text does
pub front_start : (start : Start) (text : List ℕ) (c : ℕ) (front rest : List ℕ) → StartsWith start text → (c ∷ front) ++ rest ≡ text → start_of c ≡ start
front_start start [] c front rest starts e = absurd starts
front_start start (d ∷ text) c front rest starts e = (let same : c ≡ d = cc in ap start_of same ∙ starts)

-- a text begins with no piece whose kind its first character doesn't fit
pub misfit : (start : Start) (text : List ℕ) (kind : Option TokenKind) (front rest : List ℕ) → StartsWith start text → front ++ rest ≡ text → IsPiece kind front rest → fits kind start ≡ false → ⊥
misfit start text kind [] rest starts e is wrong = no_empty_piece kind rest is
misfit start text kind (c ∷ front) rest starts e is wrong =
    both_ways (fits kind start) wrong (ap (fits kind) (sym (front_start start text c front rest starts e)) ∙ piece_start kind c front rest is)
