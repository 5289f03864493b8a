-- The values: a type and a number that its bits can hold.
use Rattle.std.specs.Prelude.{ℕ, ◌<◌, ◌%◌, ◌^◌, Bool, true, false, ◌==◌, ◌&&◌}
use Rattle.qz_values.specs.declared.Ty.{Ty}
use Rattle.qz_values.specs.declared.Ty.TheVariants.{Bool as Truth}
use Rattle.qz_values.specs.declared.Value.{Value}
use Rattle.qz_values.specs.Types.{width_of, IsType, is_bool}

abbrev pub value_of : Ty → ℕ → Value
value_of t n = record { ty = t; bits = n }

abbrev pub type_of : Value → Ty
type_of v = v.ty

abbrev pub bits_of : Value → ℕ
bits_of v = v.bits

-- a value of a type that there is, whose number the type's bits hold
pub record IsValue (v : Value) : Type 0 where
  pub typed : IsType (type_of v)
  pub fits : bits_of v < 2 ^ width_of (type_of v)

-- the number modulo 2 to the power of the type's width
abbrev pub wrapped : Ty → ℕ → Value
wrapped t n = value_of t (n % 2 ^ width_of t)

-- the value that a variable of the type has before any was written
abbrev pub default_of : Ty → Value
default_of t = value_of t 0

abbrev pub yes : Value
yes = value_of Truth 1

abbrev pub no : Value
no = value_of Truth 0

abbrev pub truth_of : Bool → Value
truth_of true = yes
truth_of false = no

-- whether it is the bool `true`
abbrev pub is_yes : Value → Bool
is_yes v = is_bool (type_of v) && (bits_of v == 1)

-- whether it is the bool `false`
abbrev pub is_no : Value → Bool
is_no v = is_bool (type_of v) && (bits_of v == 0)
