-- What is told by the rails of negation, choice and selection.
use Rattle.std.proofs.Common.{ℕ, zero, suc, ◌+◌, ◌-◌, ◌*◌, ◌/◌, ◌%◌, ◌^◌, ◌<◌, ◌≡◌, Bool, true, false, cond, not, ◌&&◌, ◌||◌, List, [], ◌∷◌, ◌++◌, length, map, take, drop, get_or, refl, sym, ap, ◌∙◌, subst, arith, add-one}
use Rattle.std.proofs.lemmas.Nat.{pow_pos, shr-shr, shr_le, mod-pow-add}
use Rattle.std.proofs.Math.Nat.{mod-eq_of_lt, mul_assoc}
use Rattle.std.proofs.lemmas.List.{length-append}
use Rattle.qz_values.specs.declared.Ty.{Ty}
use Rattle.qz_values.specs.declared.Ty.TheVariants.{Bool as Truth, Bv}
use Rattle.qz_values.specs.declared.Know.TheVariants.{Known}
use Rattle.qz_values.specs.declared.Op1.{Op1}
use Rattle.qz_values.specs.declared.Op1.TheVariants.{Not, Invert}
use Rattle.qz_values.specs.Types.{width_of}
use Rattle.qz_values.specs.Values.{value_of}
use Rattle.qz_values.specs.Tables.{takes1}
use Rattle.qz_values.specs.Operators.{value1}
use Rattle.qz_values.specs.Knowledge.{apply1_of, choose_of, bit_of, slice_of, concat_of}
use Rattle.qz_rails.specs.Bits.{digit, number_of}
use Rattle.qz_rails.specs.Rails.{told}
use Rattle.qz_rails.specs.Bits.{choices, lowest}
use Rattle.qz_rails.proofs.BitNumbers.{digit_small, twice, number_fits, number_not}

bits_not : (op : Op1) (t : Ty) (xs : List Bool) → takes1 op t ≡ true → length xs ≡ width_of t → value_of t (number_of (map not xs)) ≡ value1 op (value_of t (number_of xs))
bits_not Not Truth [] h e = absurd (omega arith)
bits_not Not Truth (true ∷ []) h e = refl
bits_not Not Truth (false ∷ []) h e = refl
bits_not Not Truth (x ∷ y ∷ xs) h e = absurd (omega arith)
bits_not Not (Bv w) xs h e = absurd cc
bits_not Invert t xs h e =
    let n = number_not xs in
    let P : ℕ → Type 0 = λ n. number_of xs < 2 ^ n in
    let fits : number_of xs < 2 ^ width_of t = subst P e (number_fits xs) in
    let small : number_of xs % 2 ^ width_of t ≡ number_of xs = mod-eq_of_lt fits in
    let w : 2 ^ length xs ≡ 2 ^ width_of t = ap (λ n. 2 ^ n) e in
    let is : number_of (map not xs) ≡ 2 ^ width_of t - 1 - number_of xs % 2 ^ width_of t = omega (arith, n, small, w, fits) in
    let below : number_of (map not xs) < 2 ^ width_of t = omega (arith, n, w) in
    ap (value_of t) (sym (mod-eq_of_lt below) ∙ ap (λ n. n % 2 ^ width_of t) is)

pub tells1 : (op : Op1) (t : Ty) (c k : Bool) (xs zs : List Bool) → zs ≡ map not xs → takes1 op t ≡ true → length xs ≡ width_of t →
    told c k (value_of t (number_of zs)) ≡ apply1_of op (told c k (value_of t (number_of xs)))
tells1 op t true k xs zs is h e = refl
tells1 op t false false xs zs is h e = refl
tells1 op t false true xs zs is h e = ap Known (ap (λ bs. value_of t (number_of bs)) is ∙ bits_not op t xs h e)

pub choices_true : (xs ys : List Bool) → length xs ≡ length ys → choices true xs ys ≡ xs
choices_true [] ys e = refl
choices_true (x ∷ xs) [] e = absurd (omega arith)
choices_true (x ∷ xs) (y ∷ ys) e = ap (λ bs. x ∷ bs) (choices_true xs ys (omega arith))

pub choices_false : (xs ys : List Bool) → length xs ≡ length ys → choices false xs ys ≡ ys
choices_false [] [] e = refl
choices_false [] (y ∷ ys) e = absurd (omega arith)
choices_false (x ∷ xs) [] e = absurd (omega arith)
choices_false (x ∷ xs) (y ∷ ys) e = ap (λ bs. y ∷ bs) (choices_false xs ys (omega arith))

pub tells_choice : (t : Ty) (cs : List Bool) (cc ck ac ak bc bk : Bool) (xs ys : List Bool) → length cs ≡ 1 → length xs ≡ length ys →
    told (cc || (ck && cond (lowest cs) ac bc)) (ck && cond (lowest cs) ak bk) (value_of t (number_of (choices (lowest cs) xs ys))) ≡
    choose_of (told cc ck (value_of Truth (number_of cs))) (told ac ak (value_of t (number_of xs))) (told bc bk (value_of t (number_of ys)))
tells_choice t [] cc ck ac ak bc bk xs ys e f = absurd (omega arith)
tells_choice t (x ∷ y ∷ cs) cc ck ac ak bc bk xs ys e f = absurd (omega arith)
tells_choice t (x ∷ []) true ck ac ak bc bk xs ys e f = refl
tells_choice t (x ∷ []) false false ac ak bc bk xs ys e f = refl
tells_choice t (true ∷ []) false true ac ak bc bk xs ys e f = ap (λ bs. told ac ak (value_of t (number_of bs))) (choices_true xs ys f)
tells_choice t (false ∷ []) false true ac ak bc bk xs ys e f = ap (λ bs. told bc bk (value_of t (number_of bs))) (choices_false xs ys f)

half : (n : ℕ) (b : Bool) → (n * 2 + digit b) / 2 ≡ n
half n b = let s = digit_small b in omega (arith, s)

rest : (n : ℕ) (b : Bool) → (n * 2 + digit b) % 2 ≡ digit b
rest n b = let s = digit_small b in omega (arith, s)

one_more : (i : ℕ) → 1 + i ≡ suc i
one_more i = omega arith

halved : (n i : ℕ) (b : Bool) → (n * 2 + digit b) / 2 ^ suc i ≡ n / 2 ^ i
halved n i b = ap (λ k. (n * 2 + digit b) / 2 ^ k) (sym (one_more i)) ∙ sym (shr-shr (n * 2 + digit b) 1 i) ∙ ap (λ m. m / 2 ^ i) (half n b)

zero_over : (i : ℕ) → 0 / 2 ^ i ≡ 0
zero_over i = omega (arith, shr_le 0 i)

pub number_drop : (i : ℕ) (xs : List Bool) → number_of (drop i xs) ≡ number_of xs / 2 ^ i
number_drop zero xs = omega arith
number_drop (suc i) [] = sym (zero_over (suc i))
number_drop (suc i) (x ∷ xs) = number_drop i xs ∙ sym (halved (number_of xs) i x)

pub number_take : (n : ℕ) (xs : List Bool) → number_of (take n xs) ≡ number_of xs % 2 ^ n
number_take zero xs = omega arith
number_take (suc n) [] = sym (mod-eq_of_lt (pow_pos (suc n)))
number_take (suc n) (x ∷ xs) =
    ap (λ m. m * 2 + digit x) (number_take n xs) ∙
    sym (ap (λ k. (number_of xs * 2 + digit x) % 2 ^ k) (sym (add-one n)) ∙ mod-pow-add (number_of xs * 2 + digit x) n 1 ∙
    ap (λ m. m % 2 ^ n * 2 + (number_of xs * 2 + digit x) % 2) (half (number_of xs) x) ∙
    ap (λ m. number_of xs % 2 ^ n * 2 + m) (rest (number_of xs) x))

pub number_bit : (i : ℕ) (xs : List Bool) → number_of xs / 2 ^ i % 2 ≡ digit (get_or xs i false)
number_bit zero [] = refl
number_bit (suc i) [] = ap (λ n. n % 2) (zero_over (suc i))
number_bit zero (x ∷ xs) = omega (arith, rest (number_of xs) x)
number_bit (suc i) (x ∷ xs) = ap (λ n. n % 2) (halved (number_of xs) i x) ∙ number_bit i xs

pub number_append : (ys xs : List Bool) → number_of (ys ++ xs) ≡ number_of xs * 2 ^ length ys + number_of ys
number_append [] xs = omega arith
number_append (y ∷ ys) xs =
    let r = number_append ys xs in
    let p : number_of xs * 2 ^ suc (length ys) ≡ number_of xs * 2 ^ length ys * 2 = ap (λ n. number_of xs * n) (twice (length ys)) ∙ sym (mul_assoc (number_of xs) (2 ^ length ys) 2) in
    omega (arith, r, p)

pub tells_bit : (t : Ty) (c k : Bool) (xs zs : List Bool) (i : ℕ) → zs ≡ get_or xs i false ∷ [] →
    told c k (value_of Truth (number_of zs)) ≡ bit_of (told c k (value_of t (number_of xs))) i
tells_bit t true k xs zs i is = refl
tells_bit t false false xs zs i is = refl
tells_bit t false true xs zs i is =
    let one : number_of (get_or xs i false ∷ []) ≡ number_of xs / 2 ^ i % 2 = omega (arith, number_bit i xs) in
    ap (λ bs. Known (value_of Truth (number_of bs))) is ∙ ap (λ n. Known (value_of Truth n)) one

pub tells_slice : (t : Ty) (c k : Bool) (xs zs : List Bool) (high low : ℕ) → zs ≡ take (high - low + 1) (drop low xs) →
    told c k (value_of (Bv (high - low + 1)) (number_of zs)) ≡ slice_of (told c k (value_of t (number_of xs))) high low
tells_slice t true k xs zs high low is = refl
tells_slice t false false xs zs high low is = refl
tells_slice t false true xs zs high low is =
    ap (λ bs. Known (value_of (Bv (high - low + 1)) (number_of bs))) is ∙
    ap (λ n. Known (value_of (Bv (high - low + 1)) n)) (number_take (high - low + 1) (drop low xs) ∙ ap (λ n. n % 2 ^ (high - low + 1)) (number_drop low xs))

pub tells_concat : (s t : Ty) (ac ak bc bk : Bool) (xs ys zs : List Bool) → length xs ≡ width_of s → length ys ≡ width_of t → zs ≡ ys ++ xs →
    told (ac || bc) (ak && bk) (value_of (Bv (width_of s + width_of t)) (number_of zs)) ≡ concat_of (told ac ak (value_of s (number_of xs))) (told bc bk (value_of t (number_of ys)))
tells_concat s t true ak bc bk xs ys zs e f is = refl
tells_concat s t false true true bk xs ys zs e f is = refl
tells_concat s t false false true bk xs ys zs e f is = refl
tells_concat s t false true false false xs ys zs e f is = refl
tells_concat s t false false false true xs ys zs e f is = refl
tells_concat s t false false false false xs ys zs e f is = refl
tells_concat s t false true false true xs ys zs e f is =
    let n : number_of (ys ++ xs) ≡ number_of xs * 2 ^ width_of t + number_of ys = number_append ys xs ∙ ap (λ k. number_of xs * 2 ^ k + number_of ys) f in
    let size : length (ys ++ xs) ≡ width_of s + width_of t = omega (arith, length-append ys xs, e, f) in
    let P : ℕ → Type 0 = λ k. number_of (ys ++ xs) < 2 ^ k in
    let fits : number_of (ys ++ xs) < 2 ^ (width_of s + width_of t) = subst P size (number_fits (ys ++ xs)) in
    ap (λ bs. Known (value_of (Bv (width_of s + width_of t)) (number_of bs))) is ∙
    ap (λ k. Known (value_of (Bv (width_of s + width_of t)) k)) (sym (mod-eq_of_lt fits) ∙ ap (λ k. k % 2 ^ (width_of s + width_of t)) n)

-- the same, by equations
pub tells_choice_by : (t : Ty) (x : Bool) (c a b r : Bool × Bool × List Bool) → lowest c.2 ≡ x →
    r.0 ≡ c.0 || (c.1 && cond x a.0 b.0) → r.1 ≡ c.1 && cond x a.1 b.1 → r.2 ≡ choices x a.2 b.2 →
    length c.2 ≡ 1 → length a.2 ≡ length b.2 →
    told r.0 r.1 (value_of t (number_of r.2)) ≡
    choose_of (told c.0 c.1 (value_of Truth (number_of c.2))) (told a.0 a.1 (value_of t (number_of a.2))) (told b.0 b.1 (value_of t (number_of b.2)))
tells_choice_by t x c a b r side clash known bits e f = rw (clash, known, bits, ← side) (tells_choice t c.2 c.0 c.1 a.0 a.1 b.0 b.1 a.2 b.2 e f)

pub tells_concat_by : (s t : Ty) (a b r : Bool × Bool × List Bool) →
    r.0 ≡ a.0 || b.0 → r.1 ≡ a.1 && b.1 → r.2 ≡ b.2 ++ a.2 → length a.2 ≡ width_of s → length b.2 ≡ width_of t →
    told r.0 r.1 (value_of (Bv (width_of s + width_of t)) (number_of r.2)) ≡ concat_of (told a.0 a.1 (value_of s (number_of a.2))) (told b.0 b.1 (value_of t (number_of b.2)))
tells_concat_by s t a b r clash known bits e f = rw (clash, known) (tells_concat s t a.0 a.1 b.0 b.1 a.2 b.2 r.2 e f bits)
