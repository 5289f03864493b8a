-- Numbers modulo a power of two, as a word of 64 bits computes them.
use Rattle.std.proofs.Common.{◌≡◌, ℕ, ◌+◌, ◌-◌, ◌*◌, ◌/◌, ◌%◌, ◌^◌, ◌<◌, ◌≤◌, sym, ◌∙◌, ap, subst, arith}
use Rattle.std.proofs.lemmas.Nat.{pow-add, pow_pos, mod_below, shr_split, shr_below}
use Rattle.std.proofs.Math.Pow.{mod-mod-pow}
use Rattle.std.proofs.Math.Nat.{add-mul-mod_self_right, add-mul, mod-add-mod}

-- what is cut to 64 bits, and then to fewer, is cut to the fewer
pub cut_twice : (n w : ℕ) → w ≤ 64 → n % 2 ^ 64 % 2 ^ w ≡ n % 2 ^ w
cut_twice n w h =
    let P : ℕ → Type 0 = λ k. n % 2 ^ k % 2 ^ w ≡ n % 2 ^ w in
    let e : (64 - w) + w ≡ 64 = omega arith in
    subst P e (mod-mod-pow n (64 - w) w)

split : (p q k m : ℕ) → p ≡ q + k + 1 → p * m ≡ q * m + k * m + m
split p q k m e = omega (arith, ap (λ n. n * m) e, add-mul (q + k) 1 m, add-mul q k m)

-- what is missing from y to 2 ^ (j + w): first to the next multiple of 2 ^ w, then so many times 2 ^ w
above : (j w y : ℕ) → y < 2 ^ (j + w) → (k : ℕ) × (2 ^ (j + w) ≡ y + (2 ^ w - y % 2 ^ w) + k * 2 ^ w)
above j w y h =
    let q : y / 2 ^ w < 2 ^ j = shr_below y j w h in
    let r : y % 2 ^ w < 2 ^ w = mod_below y (2 ^ w) (pow_pos w) in
    let k = 2 ^ j - y / 2 ^ w - 1 in
    let c : 2 ^ j ≡ y / 2 ^ w + k + 1 = omega arith in
    let e : 2 ^ j * 2 ^ w ≡ y / 2 ^ w * 2 ^ w + k * 2 ^ w + 2 ^ w = split (2 ^ j) (y / 2 ^ w) k (2 ^ w) c in
    (k, omega (arith, e, r, pow-add 2 j w, shr_split y w))

pub word_above : (y w : ℕ) → w ≤ 64 → y < 2 ^ 64 → (k : ℕ) × (2 ^ 64 ≡ y + (2 ^ w - y % 2 ^ w) + k * 2 ^ w)
word_above y w h b =
    let e : (64 - w) + w ≡ 64 = omega arith in
    let P : ℕ → Type 0 = λ n. (k : ℕ) × (2 ^ n ≡ y + (2 ^ w - y % 2 ^ w) + k * 2 ^ w) in
    let Q : ℕ → Type 0 = λ n. y < 2 ^ n in
    subst P e (above (64 - w) w y (subst Q (sym e) b))

-- a difference in a word of 64 bits, cut to fewer
pub sub_cut : (x y w : ℕ) → w ≤ 64 → y < 2 ^ 64 →
    (x + (2 ^ 64 - y)) % 2 ^ 64 % 2 ^ w ≡ (x + (2 ^ w - y % 2 ^ w)) % 2 ^ w
sub_cut x y w h b =
    let a = word_above y w h b in
    let e : x + (2 ^ 64 - y) ≡ x + (2 ^ w - y % 2 ^ w) + a.0 * 2 ^ w = omega (arith, a.1) in
    cut_twice (x + (2 ^ 64 - y)) w h ∙ ap (λ n. n % 2 ^ w) e ∙ add-mul-mod_self_right (x + (2 ^ w - y % 2 ^ w)) a.0 (2 ^ w)

-- the bits of a word inverted, cut to fewer
pub not_cut : (y w : ℕ) → w ≤ 64 → y < 2 ^ 64 →
    (2 ^ 64 - 1 - y) % 2 ^ w ≡ (2 ^ w - 1 - y % 2 ^ w) % 2 ^ w
not_cut y w h b =
    let a = word_above y w h b in
    let r : y % 2 ^ w < 2 ^ w = mod_below y (2 ^ w) (pow_pos w) in
    let e : 2 ^ 64 - 1 - y ≡ 2 ^ w - 1 - y % 2 ^ w + a.0 * 2 ^ w = omega (arith, a.1, r) in
    ap (λ n. n % 2 ^ w) e ∙ add-mul-mod_self_right (2 ^ w - 1 - y % 2 ^ w) a.0 (2 ^ w)

-- a word shifted up and another added to it, cut to fewer
pub shl_add_cut : (x y k w : ℕ) → w ≤ 64 → (x * 2 ^ k % 2 ^ 64 + y) % 2 ^ 64 % 2 ^ w ≡ (x * 2 ^ k + y) % 2 ^ w
shl_add_cut x y k w h = ap (λ n. n % 2 ^ w) (mod-add-mod (x * 2 ^ k) (2 ^ 64) y) ∙ cut_twice (x * 2 ^ k + y) w h
