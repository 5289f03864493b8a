-- The types: how wide each is, and which there are.
use Rattle.std.specs.Prelude.{ℕ, ◌≤◌, Bool, true, false, ◌==◌, ◌&&◌, nat_le}
use Rattle.qz_values.specs.declared.Ty.{Ty}
use Rattle.qz_values.specs.declared.Ty.TheVariants.{Bool as Truth, Bv}

-- how many bits a value of the type has
abbrev pub width_of : Ty → ℕ
width_of Truth = 1
width_of (Bv w) = w

-- a vector has from 1 to 64 bits: with any other width there is no such type
pub record IsType (t : Ty) : Type 0 where
  pub at_least_1 : 1 ≤ width_of t
  pub at_most_64 : width_of t ≤ 64

-- `IsType` as a test
abbrev pub is_type : Ty → Bool
is_type t = nat_le 1 (width_of t) && nat_le (width_of t) 64

abbrev pub is_bool : Ty → Bool
is_bool Truth = true
is_bool (Bv w) = false

-- whether it is a vector type that there is
abbrev pub is_vector : Ty → Bool
is_vector Truth = false
is_vector (Bv w) = is_type (Bv w)

-- whether two types are one
abbrev pub is_same_type : Ty → Ty → Bool
is_same_type Truth Truth = true
is_same_type Truth (Bv w) = false
is_same_type (Bv v) Truth = false
is_same_type (Bv v) (Bv w) = v == w
