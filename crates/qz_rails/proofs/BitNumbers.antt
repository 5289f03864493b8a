-- What the operations on lists of bits do to their numbers.
use Rattle.std.proofs.Common.{ℕ, suc, ◌+◌, ◌*◌, ◌%◌, ◌^◌, ◌<◌, ◌≤◌, ◌≡◌, ◌==◌, Bool, true, false, not, ◌&&◌, ◌||◌, List, [], ◌∷◌, length, map, refl, sym, ap, ◌∙◌, subst, arith, add-one, ⊎_elim, nat_lt, bit_and, bit_or, bit_xor}
use Rattle.std.proofs.lemmas.Nat.{pow-add, and_block, or_block, xor_block}
use Rattle.std.proofs.lemmas.Bool.{cases_lt, cases_eq, lt-ltb, le-ltb, eq-eqb, ne_eqb}
use Rattle.std.proofs.Math.Nat.{add-mul-mod_self_right, mod-eq_of_lt, mul_assoc}
use Rattle.qz_dd.specs.declared.call.DdOp.TheVariants as op
use Rattle.qz_dd.specs.Calls.{op_value}
use Rattle.qz_rails.specs.Bits.{digit, number_of, exclusive, pairwise, same_from}
use Rattle.qz_rails.specs.Sums.{less_from, sums_from, parity_of, most_of}

pub digit_small : (b : Bool) → digit b < 2
digit_small true = omega arith
digit_small false = omega arith

pub twice : (n : ℕ) → 2 ^ suc n ≡ 2 ^ n * 2
twice n = ap (λ k. 2 ^ k) (sym (add-one n)) ∙ pow-add 2 n 1

pub number_fits : (xs : List Bool) → number_of xs < 2 ^ length xs
number_fits [] = omega arith
number_fits (x ∷ xs) = let s = digit_small x in let r = number_fits xs in let e = twice (length xs) in omega (arith, s, r, e)

pub number_not : (xs : List Bool) → number_of (map not xs) + number_of xs + 1 ≡ 2 ^ length xs
number_not [] = refl
number_not (true ∷ xs) = let r = number_not xs in let e = twice (length xs) in omega (arith, r, e)
number_not (false ∷ xs) = let r = number_not xs in let e = twice (length xs) in omega (arith, r, e)

pub number_and : (xs ys : List Bool) → length xs ≡ length ys → number_of (pairwise (op_value op.And) xs ys) ≡ bit_and (number_of xs) (number_of ys)
number_and [] [] e = refl
number_and [] (y ∷ ys) e = absurd (omega arith)
number_and (x ∷ xs) [] e = absurd (omega arith)
number_and (x ∷ xs) (y ∷ ys) e =
    let r = number_and xs ys (omega arith) in
    ap (λ n. n * 2 + digit (x && y)) r ∙ ap (λ n. bit_and (number_of xs) (number_of ys) * 2 + n) (one x y)
    ∙ sym (and_block 1 (number_of xs) (number_of ys) (digit x) (digit y) (digit_small x) (digit_small y))
  where
    one : (x y : Bool) → digit (x && y) ≡ bit_and (digit x) (digit y)
    one true true = refl
    one true false = refl
    one false true = refl
    one false false = refl

pub number_or : (xs ys : List Bool) → length xs ≡ length ys → number_of (pairwise (op_value op.Or) xs ys) ≡ bit_or (number_of xs) (number_of ys)
number_or [] [] e = refl
number_or [] (y ∷ ys) e = absurd (omega arith)
number_or (x ∷ xs) [] e = absurd (omega arith)
number_or (x ∷ xs) (y ∷ ys) e =
    let r = number_or xs ys (omega arith) in
    ap (λ n. n * 2 + digit (x || y)) r ∙ ap (λ n. bit_or (number_of xs) (number_of ys) * 2 + n) (one x y)
    ∙ sym (or_block 1 (number_of xs) (number_of ys) (digit x) (digit y) (digit_small x) (digit_small y))
  where
    one : (x y : Bool) → digit (x || y) ≡ bit_or (digit x) (digit y)
    one true true = refl
    one true false = refl
    one false true = refl
    one false false = refl

pub number_xor : (xs ys : List Bool) → length xs ≡ length ys → number_of (pairwise (op_value op.Xor) xs ys) ≡ bit_xor (number_of xs) (number_of ys)
number_xor [] [] e = refl
number_xor [] (y ∷ ys) e = absurd (omega arith)
number_xor (x ∷ xs) [] e = absurd (omega arith)
number_xor (x ∷ xs) (y ∷ ys) e =
    let r = number_xor xs ys (omega arith) in
    ap (λ n. n * 2 + digit (exclusive x y)) r ∙ ap (λ n. bit_xor (number_of xs) (number_of ys) * 2 + n) (one x y)
    ∙ sym (xor_block 1 (number_of xs) (number_of ys) (digit x) (digit y) (digit_small x) (digit_small y))
  where
    one : (x y : Bool) → digit (exclusive x y) ≡ bit_xor (digit x) (digit y)
    one true true = refl
    one true false = refl
    one false true = refl
    one false false = refl

both_tests : (p : Bool) (a b m n : ℕ) → (a ≡ b → m ≡ n) → (m ≡ n → a ≡ b) → p && (a == b) ≡ p && (m == n)
both_tests p a b m n there back = ⊎_elim
    (λ (e : a ≡ b). ap (λ q. p && q) (eq-eqb a b e ∙ sym (eq-eqb m n (there e))))
    (λ (apart : a ≡ b → ⊥). ap (λ q. p && q) (ne_eqb a b apart ∙ sym (ne_eqb m n (λ e. apart (back e)))))
    (cases_eq a b)

never : (p : Bool) (m n : ℕ) (b : Bool) → (m ≡ n → ⊥) → (p && false) && b ≡ p && (m == n)
never true m n b apart = sym (ne_eqb m n apart)
never false m n b apart = refl

plain : (p q : Bool) → (p && true) && q ≡ p && q
plain true q = refl
plain false q = refl

pub same_number : (p : Bool) (xs ys : List Bool) → length xs ≡ length ys → same_from p xs ys ≡ p && (number_of xs == number_of ys)
same_number true [] [] e = refl
same_number false [] [] e = refl
same_number p [] (y ∷ ys) e = absurd (omega arith)
same_number p (x ∷ xs) [] e = absurd (omega arith)
same_number p (true ∷ xs) (true ∷ ys) e =
    same_number (p && true) xs ys (omega arith) ∙ plain p (number_of xs == number_of ys) ∙ both_tests p (number_of xs) (number_of ys) (number_of xs * 2 + 1) (number_of ys * 2 + 1) (λ h. omega arith) (λ h. omega arith)
same_number p (false ∷ xs) (false ∷ ys) e =
    same_number (p && true) xs ys (omega arith) ∙ plain p (number_of xs == number_of ys) ∙ both_tests p (number_of xs) (number_of ys) (number_of xs * 2 + 0) (number_of ys * 2 + 0) (λ h. omega arith) (λ h. omega arith)
same_number p (true ∷ xs) (false ∷ ys) e =
    same_number (p && false) xs ys (omega arith) ∙ never p (number_of xs * 2 + 1) (number_of ys * 2 + 0) (number_of xs == number_of ys) (λ h. absurd (omega arith))
same_number p (false ∷ xs) (true ∷ ys) e =
    same_number (p && false) xs ys (omega arith) ∙ never p (number_of xs * 2 + 0) (number_of ys * 2 + 1) (number_of xs == number_of ys) (λ h. absurd (omega arith))

less_tests : (a b m n : ℕ) → (a < b → m < n) → (m < n → a < b) → nat_lt a b ≡ nat_lt m n
less_tests a b m n there back = ⊎_elim
    (λ (less : a < b). lt-ltb a b less ∙ sym (lt-ltb m n (there less)))
    (λ (no : b ≤ a). le-ltb a b no ∙ sym (⊎_elim (λ (l : m < n). absurd (let h = back l in omega (arith, h, no))) (λ (g : n ≤ m). le-ltb m n g) (cases_lt m n)))
    (cases_lt a b)

pub less_number : (p : Bool) (xs ys : List Bool) → length xs ≡ length ys → less_from p xs ys ≡ nat_lt (number_of xs) (number_of ys + digit p)
less_number true [] [] e = refl
less_number false [] [] e = refl
less_number p [] (y ∷ ys) e = absurd (omega arith)
less_number p (x ∷ xs) [] e = absurd (omega arith)
less_number p (true ∷ xs) (true ∷ ys) e =
    let s = digit_small p in
    less_number p xs ys (omega arith) ∙ less_tests (number_of xs) (number_of ys + digit p) (number_of xs * 2 + 1) (number_of ys * 2 + 1 + digit p) (λ h. omega (arith, h, s)) (λ h. omega (arith, h, s))
less_number p (false ∷ xs) (false ∷ ys) e =
    let s = digit_small p in
    less_number p xs ys (omega arith) ∙ less_tests (number_of xs) (number_of ys + digit p) (number_of xs * 2 + 0) (number_of ys * 2 + 0 + digit p) (λ h. omega (arith, h, s)) (λ h. omega (arith, h, s))
less_number p (true ∷ xs) (false ∷ ys) e =
    let s = digit_small p in
    less_number false xs ys (omega arith) ∙ less_tests (number_of xs) (number_of ys + 0) (number_of xs * 2 + 1) (number_of ys * 2 + 0 + digit p) (λ h. omega (arith, h, s)) (λ h. omega (arith, h, s))
less_number p (false ∷ xs) (true ∷ ys) e =
    let s = digit_small p in
    less_number true xs ys (omega arith) ∙ less_tests (number_of xs) (number_of ys + 1) (number_of xs * 2 + 0) (number_of ys * 2 + 1 + digit p) (λ h. omega (arith, h, s)) (λ h. omega (arith, h, s))

full : (x y c : Bool) → digit x + digit y + digit c ≡ digit (parity_of x y c) + 2 * digit (most_of x y c)
full true true true = refl
full true true false = refl
full true false true = refl
full true false false = refl
full false true true = refl
full false true false = refl
full false false true = refl
full false false false = refl

-- with the carry out
sums_over : (c : Bool) (xs ys : List Bool) → length xs ≡ length ys → (k : ℕ) × (number_of xs + number_of ys + digit c ≡ number_of (sums_from c xs ys) + k * 2 ^ length xs)
sums_over c [] [] e = (digit c, omega arith)
sums_over c [] (y ∷ ys) e = absurd (omega arith)
sums_over c (x ∷ xs) [] e = absurd (omega arith)
sums_over c (x ∷ xs) (y ∷ ys) e =
    let r = sums_over (most_of x y c) xs ys (omega arith) in
    let one = full x y c in
    let e = twice (length xs) in
    let p : r.0 * 2 ^ suc (length xs) ≡ r.0 * 2 ^ length xs * 2 = ap (λ n. r.0 * n) e ∙ sym (mul_assoc r.0 (2 ^ length xs) 2) in
    (r.0, omega (arith, r.1, one, p))

pub sums_length : (c : Bool) (xs ys : List Bool) → length xs ≡ length ys → length (sums_from c xs ys) ≡ length xs
sums_length c [] [] e = refl
sums_length c [] (y ∷ ys) e = absurd (omega arith)
sums_length c (x ∷ xs) [] e = absurd (omega arith)
sums_length c (x ∷ xs) (y ∷ ys) e = let r = sums_length (most_of x y c) xs ys (omega arith) in omega (arith, r)

pub number_sum : (c : Bool) (xs ys : List Bool) → length xs ≡ length ys → number_of (sums_from c xs ys) ≡ (number_of xs + number_of ys + digit c) % 2 ^ length xs
number_sum c xs ys e =
    let r = sums_over c xs ys e in
    let P : ℕ → Type 0 = λ n. number_of (sums_from c xs ys) < 2 ^ n in
    let fits : number_of (sums_from c xs ys) < 2 ^ length xs = subst P (sums_length c xs ys e) (number_fits (sums_from c xs ys)) in
    sym (ap (λ n. n % 2 ^ length xs) r.1 ∙ add-mul-mod_self_right (number_of (sums_from c xs ys)) r.0 (2 ^ length xs) ∙ mod-eq_of_lt fits)
