-- Numbers by their digits.
use Rattle.std.proofs.Common.{ℕ, zero, suc, ◌+◌, ◌-◌, ◌/◌, ◌%◌, ◌^◌, ◌<◌, ◌≡◌, ◌==◌, ◌∷◌, length, refl, sym, ap, ◌∙◌, arith, ⊎_elim}
use Rattle.std.proofs.lemmas.Bool.{eq-eqb, ne_eqb, cases_eq}
use Rattle.qz_rails.specs.Bits.{digit, number_of, digits_of}
use Rattle.qz_rails.proofs.BitNumbers.{twice}

odd_digit : (n : ℕ) → digit (n % 2 == 1) ≡ n % 2
odd_digit n = ⊎_elim
    (λ (e : n % 2 ≡ 1). ap digit (eq-eqb (n % 2) 1 e) ∙ sym e)
    (λ (apart : n % 2 ≡ 1 → ⊥). ap digit (ne_eqb (n % 2) 1 apart) ∙ omega (arith, apart))
    (cases_eq (n % 2) 1)

-- the digits of a number that they are enough for
pub digits_number : (width n : ℕ) → n < 2 ^ width → number_of (digits_of width n) ≡ n
digits_number zero n h = omega arith
digits_number (suc width) n h =
    let e = twice width in
    let rest = digits_number width (n / 2) (omega (arith, e)) in
    let d = odd_digit n in
    omega (arith, rest, d)

pub digits_length : (width n : ℕ) → length (digits_of width n) ≡ width
digits_length zero n = refl
digits_length (suc width) n = let r = digits_length width (n / 2) in omega (arith, r)

pub digits_step : (width i n : ℕ) → i < width → digits_of (width - i) n ≡ (n % 2 == 1) ∷ digits_of (width - (i + 1)) (n / 2)
digits_step width i n h = let e : width - i ≡ suc (width - (i + 1)) = omega arith in ap (λ k. digits_of k n) e
