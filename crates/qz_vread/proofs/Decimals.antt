-- Decimal digits and the number that they are.
use Rattle.std.proofs.Common.{arith, ◌≡◌, ℕ, zero, suc, ◌<◌, ◌^◌, ◌≢◌, List, length, get_or, Some, None, Result, Ok, Err, sym, ap, ◌∙◌}
use Rattle.std.specs.Fmt.{decimal}
use Rattle.std.specs.Result.{OkIff, result_ok}
use Rattle.std.specs.Str.Parse.{AllDigits, digits_value, ParsesUnsigned}
use Rattle.std.proofs.lemmas.Str.Parse.{IsNumeralModel, numerals_by_value, tells_digits, not_in_digits, parse_plain}
use Rattle.std.proofs.lemmas.Fmt.{digits_decimal, digits_value-decimal, decimal-digits_value, decimal_nonempty, first_decimal, decimal_digit, parse-decimal}
use Rattle.qz_vread.specs.Reading.{Reads}

pub own : IsNumeralModel (AllDigits 10) (digits_value 10)
own = numerals_by_value (AllDigits 10) tells_digits

-- a number has one spelling
pub decimal_once : (m n : ℕ) → m < 2 ^ 64 → n < 2 ^ 64 → decimal m ≡ decimal n → m ≡ n
decimal_once m n small other e = sym (digits_value-decimal own m small) ∙ ap (digits_value 10) e ∙ digits_value-decimal own n other

-- only zero begins with a zero
pub begins : (n : ℕ) → n < 2 ^ 64 → get_or (decimal n) 0 0 ≡ 48 → length (decimal n) ≡ 1
begins zero small is = ap length (decimal_digit 0 (omega arith))
begins (suc n) small is = let more = first_decimal (suc n) (omega arith) small in absurd (omega (arith, more, is))

pub no_plus : (n : ℕ) → n < 2 ^ 64 → get_or (decimal n) 0 0 ≢ 43
no_plus n small = not_in_digits own (decimal n) 43 (digits_decimal own n small) (λ inside. let low = inside.0 in omega (arith, low)) 0 (decimal_nonempty n small)

-- what was parsed of bytes without a sign, and without a zero before others
pub parsed_reads : {E : Type 0} (bytes : List ℕ) (r : Result ℕ E) → ParsesUnsigned 64 10 bytes r → get_or bytes 0 0 ≢ 43 → (get_or bytes 0 0 ≡ 48 → length bytes ≡ 1)
    → Reads (λ n. n < 2 ^ 64) decimal bytes (result_ok r)
parsed_reads {E} bytes r parsed no_sign lead = record {
  sound = λ n e. sound r (parse_plain own 64 bytes r parsed no_sign) n e;
  complete = λ n small e. ap result_ok (parse-decimal {E = E} 64 n bytes r small small e parsed);
}
  where
    sound : (r : Result ℕ E) → OkIff r (AllDigits 10 bytes × (0 < length bytes) × (digits_value 10 bytes < 2 ^ 64)) (digits_value 10 bytes)
        → (n : ℕ) → result_ok r ≡ Some n → (n < 2 ^ 64) × (bytes ≡ decimal n)
    sound (Err fault) is n e = absurd cc
    sound (Ok x) is n e =
        let same : digits_value 10 bytes ≡ n = sym is.1 ∙ (let t : Some x ≡ Some n = e in cc) in
        (rw (← same) is.0.2, sym (decimal-digits_value own bytes is.0.0 is.0.1 lead is.0.2) ∙ ap decimal same)

-- nothing is read where no number stands
pub no_number : (bytes : List ℕ) → ((n : ℕ) → n < 2 ^ 64 → bytes ≡ decimal n → ⊥) → Reads (λ n. n < 2 ^ 64) decimal bytes None
no_number bytes none = record { sound = λ n e. absurd cc; complete = λ n small e. absurd (none n small e) }

-- bytes with a sign or a zero before others are no number
pub unplain : (bytes : List ℕ) → ((get_or bytes 0 0 ≡ 48 → length bytes ≡ 1) → get_or bytes 0 0 ≡ 43) → (n : ℕ) → n < 2 ^ 64 → bytes ≡ decimal n → ⊥
unplain bytes other n small e =
    no_plus n small (ap (λ bs. get_or bs 0 0) (sym e) ∙ other (λ zero_first. ap length e ∙ begins n small (ap (λ bs. get_or bs 0 0) (sym e) ∙ zero_first)))
