-- What is told by rails that come of no other rail.
use Rattle.std.proofs.Common.{◌≡◌, Bool, true, false, List, refl, ap}
use Rattle.qz_values.specs.declared.Ty.{Ty}
use Rattle.qz_values.specs.declared.Value.{Value}
use Rattle.qz_values.specs.declared.Know.TheVariants.{Unknown, Known}
use Rattle.qz_values.specs.Types.{width_of}
use Rattle.qz_values.specs.Values.{value_of, type_of, bits_of, IsValue}
use Rattle.qz_rails.specs.Bits.{number_of, digits_of}
use Rattle.qz_rails.specs.Rails.{told}
use Rattle.qz_rails.proofs.Digits.{digits_number}

pub tells_constant : (v : Value) (c k : Bool) (bits : List Bool) → IsValue v → c ≡ false → k ≡ true → bits ≡ digits_of (width_of (type_of v)) (bits_of v) →
    told c k (value_of (type_of v) (number_of bits)) ≡ Known v
tells_constant v c k bits is clash known digits =
    rw (clash, known, digits) (ap (λ n. Known (value_of (type_of v) n)) (digits_number (width_of (type_of v)) (bits_of v) is.fits))

pub tells_nothing : (v : Value) (c k : Bool) → c ≡ false → k ≡ false → told c k v ≡ Unknown
tells_nothing v c k clash known = rw (clash, known) refl

pub tells_variable : (t : Ty) (c k : Bool) (bits variables : List Bool) → c ≡ false → k ≡ true → bits ≡ variables →
    told c k (value_of t (number_of bits)) ≡ Known (value_of t (number_of variables))
tells_variable t c k bits variables clash known is = rw (clash, known, is) refl
