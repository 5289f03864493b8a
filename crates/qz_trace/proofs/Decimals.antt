-- Decimal digits and the numbers that they are.
use Rattle.std.proofs.Common.{arith, ◌≡◌, ℕ, zero, suc, ◌<◌, ◌≤◌, ◌^◌, List, length, get_or, ap}
use Rattle.std.specs.Fmt.{decimal}
use Rattle.std.specs.Str.Parse.{digits_value}
use Rattle.std.proofs.Math.Pow.{pow_mono}
use Rattle.std.proofs.lemmas.Str.Parse.{IsNumeralModel, numerals_by_value, tells_by_index, not_in_digits}
use Rattle.std.proofs.lemmas.Fmt.{digits_decimal, digits_value-decimal, decimal-digits_value, decimal_nonempty, first_decimal, decimal_digit}
use Rattle.qz_values.specs.declared.Ty.{Ty}
use Rattle.qz_values.specs.Types.{width_of, IsType}
use Rattle.qz_trace.specs.Faults.{AreDigits, IsDecimal, IsRightField}
use Rattle.qz_trace.specs.Reading.{IsFree}

pub own : IsNumeralModel AreDigits (digits_value 10)
own = numerals_by_value AreDigits tells_by_index

-- what a type's bits hold, a machine word holds
pub held : (t : Ty) (n : ℕ) → IsType t → n < 2 ^ width_of t → n < 2 ^ 64
held t n is small = let le : 2 ^ width_of t ≤ 2 ^ 64 = pow_mono is.at_most_64 in omega (arith, le, small)

-- only zero begins with a zero
begins : (n : ℕ) → n < 2 ^ 64 → get_or (decimal n) 0 0 ≡ 48 → length (decimal n) ≡ 1
begins zero small is = ap length (decimal_digit 0 (omega arith))
begins (suc n) small is = let more = first_decimal (suc n) (omega arith) small in absurd (omega (arith, more, is))

-- what is written of a number is a decimal
pub decimal_is : (n : ℕ) → n < 2 ^ 64 → IsDecimal (decimal n)
decimal_is n small = record {
  digits = digits_decimal own n small;
  some = decimal_nonempty n small;
  begins = begins n small;
}

pub decimal_value : (n : ℕ) → n < 2 ^ 64 → digits_value 10 (decimal n) ≡ n
decimal_value n small = digits_value-decimal own n small

-- a decimal is what is written of its number
pub decimal_of : (field : List ℕ) → IsDecimal field → digits_value 10 field < 2 ^ 64 → decimal (digits_value 10 field) ≡ field
decimal_of field is small = decimal-digits_value own field is.digits is.some is.begins small

-- no digit is a space or an LF
pub decimal_free : (c n : ℕ) → c < 48 → n < 2 ^ 64 → IsFree c (decimal n)
decimal_free c n low small = not_in_digits own (decimal n) c (digits_decimal own n small) (λ inside. let low_c = inside.0 in omega (arith, low, low_c))

-- what is written of a number of the type is a right field
pub decimal_right : (t : Ty) (n : ℕ) → IsType t → n < 2 ^ width_of t → IsRightField t (decimal n)
decimal_right t n is small =
    let value = decimal_value n (held t n is small) in
    (decimal_is n (held t n is small), omega (arith, value, small))
