-- What the tests of types say.
use Rattle.std.proofs.Common.{◌≡◌, true, arith}
use Rattle.std.proofs.lemmas.Bool.{and_parts, leb-true}
use Rattle.qz_values.specs.declared.Ty.{Ty}
use Rattle.qz_values.specs.declared.Ty.TheVariants.{Bool as Truth, Bv}
use Rattle.qz_values.specs.Types.{width_of, IsType, is_type, is_vector}

pub IsType-is_type : (t : Ty) → is_type t ≡ true → IsType t
IsType-is_type t h =
    let p = and_parts _ _ h in
    record { at_least_1 = leb-true 1 (width_of t) p.0; at_most_64 = leb-true (width_of t) 64 p.1 }

pub IsType-is_vector : (t : Ty) → is_vector t ≡ true → IsType t
IsType-is_vector Truth h = record { at_least_1 = omega arith; at_most_64 = omega arith }
IsType-is_vector (Bv w) h = IsType-is_type (Bv w) h
