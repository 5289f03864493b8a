-- Decimal digits: as the lexer tests them, as std reads them.
use Rattle.std.proofs.Common.{◌≡◌, ℕ, ◌<◌, ◌≤◌, ◌^◌, true, IsTrue, List, [], ◌∷◌, refl, arith, lit≤}
use Rattle.std.specs.Char.{is_ascii_digit}
use Rattle.std.specs.List.{list_all}
use Rattle.std.specs.Str.{all_ascii_digits}
use Rattle.std.specs.Str.Parse.{AllDigits, digits_value}
use Rattle.std.proofs.lemmas.Bool.Decides.{nat_tests}
use Rattle.std.proofs.lemmas.Str.Parse.{IsNumeralModel, numerals_by_value, tells_digits, tells_all_ascii_digits, digits_value_short}
use Rattle.qz_source.specs.Spots.{IsNumberText}

pub own : IsNumeralModel (AllDigits 10) (digits_value 10)
own = numerals_by_value (AllDigits 10) tells_digits

by_tests : IsNumeralModel (λ ds. all_ascii_digits ds ≡ true) (digits_value 10)
by_tests = numerals_by_value (λ ds. all_ascii_digits ds ≡ true) tells_all_ascii_digits

tested : (digits : List ℕ) → IsTrue (list_all is_ascii_digit digits) → all_ascii_digits digits ≡ true
tested [] each = refl
tested (d ∷ digits) each = let more : IsTrue (list_all is_ascii_digit digits) = grind (arith, nat_tests) in grind (arith, nat_tests, tested digits more)

-- what the lexer takes for digits are digits
pub are_digits : (digits : List ℕ) → IsTrue (list_all is_ascii_digit digits) → AllDigits 10 digits
are_digits digits each = by_tests.to digits (tested digits each)

-- a number's value fits 128 bits
pub fits : (bytes : List ℕ) → IsNumberText bytes → digits_value 10 bytes < 2 ^ 128
fits bytes is =
    let small = digits_value_short own bytes 20 is.digits is.short in
    let within : 10 ^ 20 ≤ 2 ^ 128 = lit≤ tt in
    omega (arith, small, within)
