-- A name that none of some names is.
use Rattle.std.proofs.Common.{◌≡◌, ℕ, zero, suc, ◌+◌, ◌^◌, ◌<◌, ◌≤◌, Bool, true, false, not, ◌&&◌, ◌||◌, ◌==◌, List, [], ◌∷◌, length, refl, inl, inr, ap, ◌∙◌, arith, cond, pow-suc}
use Rattle.std.specs.List.{list_all, list_any}
use Rattle.std.specs.Prelude.{◌⊎◌, nat_lt, nat_le}
use Rattle.std.specs.Str.{bytes_eq, all_scalars}
use Rattle.std.proofs.Math.Utf8.{scalar, low_scalar}
use Rattle.std.proofs.lemmas.Bool.{and_parts, and_from, or_from, or_parts, not_from_false, false_from_ne_true, ltb-true, leb-true, leb-false, le-leb, eqb-true}
use Rattle.std.proofs.lemmas.Bool.Decides.{nat_tests}
use Rattle.std.proofs.lemmas.Slice.Eq.{bytes_eq-Decides}
use Rattle.unicode_ident.specs.Ident.{is_xid_start, is_xid_continue}
use Rattle.unicode_ident.proofs.IdentLemmas.{is_xid_start-ascii, is_xid_continue-ascii}
use Rattle.qz_syntax.specs.DoubleNames.{is_among}
use Rattle.qz_syntax.specs.Spelling.{reserved_words, is_reserved, is_spelled}
use Rattle.qz_vread.specs.Naming.{IsNamed}

-- what follows this character in those names that begin with it
abbrev pub tails : ℕ → List (List ℕ) → List (List ℕ)
tails c [] = []
tails c ([] ∷ names) = tails c names
tails c ((x ∷ xs) ∷ names) = cond (x == c) (xs ∷ tails c names) (tails c names)

-- the rarer of `a` and `b` in front, and so on among what follows it
abbrev pub fresh : ℕ → List (List ℕ) → List ℕ
fresh zero names = []
fresh (suc n) names = cond (nat_le (length (tails 97 names)) (length (tails 98 names))) (97 ∷ fresh n (tails 97 names)) (98 ∷ fresh n (tails 98 names))

few_more : (p q : Bool) (xs : List ℕ) (a b : List (List ℕ)) (n : ℕ) → (p ≡ true → q ≡ true → ⊥) → length a + length b ≤ n
    → length (cond p (xs ∷ a) a) + length (cond q (xs ∷ b) b) ≤ suc n
few_more true true xs a b n apart small = absurd (apart refl refl)
few_more true false xs a b n apart small = omega arith
few_more false true xs a b n apart small = omega arith
few_more false false xs a b n apart small = omega arith

few : (names : List (List ℕ)) → length (tails 97 names) + length (tails 98 names) ≤ length names
few [] = omega arith
few ([] ∷ names) = let more = few names in omega arith
few ((x ∷ xs) ∷ names) = few_more (x == 97) (x == 98) xs (tails 97 names) (tails 98 names) (length names) (not_both x) (few names)
  where
    not_both : (x : ℕ) → (x == 97) ≡ true → (x == 98) ≡ true → ⊥
    not_both x e f = let a = eqb-true x 97 e in let b = eqb-true x 98 f in omega arith

other_one : (p : Bool) (c : ℕ) (f xs : List ℕ) (names : List (List ℕ)) → (is_among (tails c names) f ≡ false → is_among names (c ∷ f) ≡ false)
    → is_among (cond p (xs ∷ tails c names) (tails c names)) f ≡ false → ((p && bytes_eq xs f) || is_among names (c ∷ f)) ≡ false
other_one true c f xs names more none =
    let parts = or_parts (bytes_eq xs f) (is_among (tails c names) f) none in
    or_from (bytes_eq xs f) (is_among names (c ∷ f)) parts.0 (more parts.1)
other_one false c f xs names more none = more none

other_tail : (c : ℕ) (f : List ℕ) (names : List (List ℕ)) → is_among (tails c names) f ≡ false → is_among names (c ∷ f) ≡ false
other_tail c f [] none = refl
other_tail c f ([] ∷ names) none = other_tail c f names none
other_tail c f ((x ∷ xs) ∷ names) none = other_one (x == c) c f xs names (other_tail c f names) none

pick : (n : ℕ) (names : List (List ℕ)) (b : Bool) → nat_le (length (tails 97 names)) (length (tails 98 names)) ≡ b → length names < 2 ^ suc n
    → ((ns : List (List ℕ)) → length ns < 2 ^ n → is_among ns (fresh n ns) ≡ false)
    → is_among names (cond b (97 ∷ fresh n (tails 97 names)) (98 ∷ fresh n (tails 98 names))) ≡ false
pick n names true e small more =
    let all = few names in
    let less : length (tails 97 names) ≤ length (tails 98 names) = leb-true _ _ e in
    other_tail 97 (fresh n (tails 97 names)) names (more (tails 97 names) (omega (arith, pow-suc 2 n)))
pick n names false e small more =
    let all = few names in
    let less : length (tails 98 names) < length (tails 97 names) = leb-false _ _ e in
    other_tail 98 (fresh n (tails 98 names)) names (more (tails 98 names) (omega (arith, pow-suc 2 n)))

pub fresh_is_new : (n : ℕ) (names : List (List ℕ)) → length names < 2 ^ n → is_among names (fresh n names) ≡ false
fresh_is_new zero [] small = refl
fresh_is_new zero (x ∷ xs) small = absurd (omega arith)
fresh_is_new (suc n) names small = pick n names (nat_le (length (tails 97 names)) (length (tails 98 names))) refl small (fresh_is_new n)

fresh_letters : (n : ℕ) (names : List (List ℕ)) → list_all (λ c. (c == 97) || (c == 98)) (fresh n names) ≡ true
fresh_letters zero names = refl
fresh_letters (suc n) names =
    let P : Bool → Type 0 = λ b. list_all (λ c. (c == 97) || (c == 98)) (cond b (97 ∷ fresh n (tails 97 names)) (98 ∷ fresh n (tails 98 names))) ≡ true in
    elim (nat_le (length (tails 97 names)) (length (tails 98 names))) as P [
      | true ↦ fresh_letters n (tails 97 names)
      | false ↦ fresh_letters n (tails 98 names)
    ]

fresh_length : (n : ℕ) (names : List (List ℕ)) → length (fresh n names) ≡ n
fresh_length zero names = refl
fresh_length (suc n) names =
    let P : Bool → Type 0 = λ b. length (cond b (97 ∷ fresh n (tails 97 names)) (98 ∷ fresh n (tails 98 names))) ≡ suc n in
    elim (nat_le (length (tails 97 names)) (length (tails 98 names))) as P [
      | true ↦ ap suc (fresh_length n (tails 97 names))
      | false ↦ ap suc (fresh_length n (tails 98 names))
    ]

letter_cases : (c : ℕ) → ((c == 97) || (c == 98)) ≡ true → (c ≡ 97) ⊎ (c ≡ 98)
letter_cases c e = grind (arith, nat_tests)

letters_scalars : (cs : List ℕ) → list_all (λ c. (c == 97) || (c == 98)) cs ≡ true → all_scalars cs ≡ true
letters_scalars [] e = refl
letters_scalars (c ∷ cs) e =
    let parts = and_parts ((c == 97) || (c == 98)) (list_all (λ c. (c == 97) || (c == 98)) cs) e in
    and_from (scalar c) (all_scalars cs) (low_scalar c (low c (letter_cases c parts.0))) (letters_scalars cs parts.1)
  where
    low : (c : ℕ) → (c ≡ 97) ⊎ (c ≡ 98) → c < 55296
    low c (inl e) = omega arith
    low c (inr e) = omega arith

starts : (c : ℕ) → (c ≡ 97) ⊎ (c ≡ 98) → is_xid_start c ≡ true
starts c (inl e) = ap is_xid_start e ∙ is_xid_start-ascii 97 (omega arith)
starts c (inr e) = ap is_xid_start e ∙ is_xid_start-ascii 98 (omega arith)

goes_on : (c : ℕ) → (c ≡ 97) ⊎ (c ≡ 98) → is_xid_continue c ≡ true
goes_on c (inl e) = ap is_xid_continue e ∙ is_xid_continue-ascii 97 (omega arith)
goes_on c (inr e) = ap is_xid_continue e ∙ is_xid_continue-ascii 98 (omega arith)

letters_go_on : (cs : List ℕ) → list_all (λ c. (c == 97) || (c == 98)) cs ≡ true → list_all (λ c. is_xid_continue c) cs ≡ true
letters_go_on [] e = refl
letters_go_on (c ∷ cs) e =
    let parts = and_parts ((c == 97) || (c == 98)) (list_all (λ c. (c == 97) || (c == 98)) cs) e in
    and_from (is_xid_continue c) (list_all (λ c. is_xid_continue c) cs) (goes_on c (letter_cases c parts.0)) (letters_go_on cs parts.1)

letters_spelled : (cs : List ℕ) → 0 < length cs → list_all (λ c. (c == 97) || (c == 98)) cs ≡ true → is_spelled cs ≡ true
letters_spelled [] some e = absurd (omega arith)
letters_spelled (c ∷ cs) some e =
    let parts = and_parts ((c == 97) || (c == 98)) (list_all (λ c. (c == 97) || (c == 98)) cs) e in
    and_from (is_xid_start c) (list_all (λ c. is_xid_continue c) cs) (starts c (letter_cases c parts.0)) (letters_go_on cs parts.1)

-- a word that is shorter isn't the name
shorter_differs : (words : List (List ℕ)) (name : List ℕ) → list_all (λ word. nat_lt (length word) 10) words ≡ true → 10 ≤ length name
    → list_any (λ word. bytes_eq word name) words ≡ false
shorter_differs [] name short long = refl
shorter_differs (w ∷ ws) name short long =
    let parts = and_parts (nat_lt (length w) 10) (list_all (λ word. nat_lt (length word) 10) ws) short in
    let small : length w < 10 = ltb-true (length w) 10 parts.0 in
    or_from (bytes_eq w name) (list_any (λ word. bytes_eq word name) ws)
    (false_from_ne_true (bytes_eq w name) (λ same. let e = ap length ((bytes_eq-Decides w name).0 same) in omega arith))
    (shorter_differs ws name parts.1 long)

words_short : list_all (λ word. nat_lt (length word) 10) reserved_words ≡ true
unfolding reserved_words
words_short = refl

name_is : (name : List ℕ) → length name ≡ 27 → list_all (λ c. (c == 97) || (c == 98)) name ≡ true → IsNamed name
name_is name long letters =
    let some : 0 < length name = omega arith in
    let room : length name ≤ 64 = omega arith in
    let ten : 10 ≤ length name = omega arith in
    record {
      text = letters_scalars name letters;
      name = and_from (is_spelled name) (nat_le (length name) 64 && not (is_reserved name))
          (letters_spelled name some letters)
          (and_from (nat_le (length name) 64) (not (is_reserved name)) (le-leb (length name) 64 room)
          (not_from_false (is_reserved name) (shorter_differs reserved_words name words_short ten)));
    }

pub fresh_named : (names : List (List ℕ)) → IsNamed (fresh 27 names)
fresh_named names = name_is (fresh 27 names) (fresh_length 27 names) (fresh_letters 27 names)
