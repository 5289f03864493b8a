-- Which operands each operator takes, and the type of what it gives. `None`: there are no such operands.
use Rattle.std.specs.Prelude.{ℕ, ◌+◌, ◌-◌, Bool, ◌&&◌, nat_lt, nat_le, if◌then◌else◌, Option, Some, None}
use Rattle.qz_values.specs.declared.Ty.{Ty}
use Rattle.qz_values.specs.declared.Ty.TheVariants.{Bool as Truth, Bv}
use Rattle.qz_values.specs.declared.Op1.{Op1}
use Rattle.qz_values.specs.declared.Op1.TheVariants.{Not, Invert}
use Rattle.qz_values.specs.declared.Op2.{Op2}
use Rattle.qz_values.specs.declared.Op2.TheVariants.{And, Or, Xor, Imp, Add, Sub, Eq, Ne, Lt, Le, Gt, Ge}
use Rattle.qz_values.specs.Types.{width_of, is_type, is_bool, is_vector, is_same_type}

-- the operand of an operator with one
abbrev pub takes1 : Op1 → Ty → Bool
takes1 Not t = is_bool t
takes1 Invert t = is_vector t

abbrev pub type1_of : Op1 → Ty → Option Ty
type1_of op t = (if takes1 op t then Some t else None)

-- the operands of an operator with two, which are of one type
abbrev pub takes2 : Op2 → Ty → Bool
takes2 And t = is_type t
takes2 Or t = is_type t
takes2 Xor t = is_type t
takes2 Imp t = is_bool t
takes2 Add t = is_vector t
takes2 Sub t = is_vector t
takes2 Eq t = is_type t
takes2 Ne t = is_type t
takes2 Lt t = is_vector t
takes2 Le t = is_vector t
takes2 Gt t = is_vector t
takes2 Ge t = is_vector t

-- the result, where the operands are of this type
abbrev pub gives2 : Op2 → Ty → Ty
gives2 And t = t
gives2 Or t = t
gives2 Xor t = t
gives2 Imp t = Truth
gives2 Add t = t
gives2 Sub t = t
gives2 Eq t = Truth
gives2 Ne t = Truth
gives2 Lt t = Truth
gives2 Le t = Truth
gives2 Gt t = Truth
gives2 Ge t = Truth

abbrev pub type2_of : Op2 → Ty → Ty → Option Ty
type2_of op s t = (if is_same_type s t && takes2 op s then Some (gives2 op s) else None)

-- `c ? a : b`
abbrev pub choose_type : Ty → Ty → Ty → Option Ty
choose_type c s t = (if is_bool c && (is_same_type s t && is_type s) then Some s else None)

-- `e{i}`: whether a vector has a bit `i`
abbrev pub has_bit : ℕ → Ty → Bool
has_bit i t = is_vector t && nat_lt i (width_of t)

abbrev pub bit_type : Ty → ℕ → Option Ty
bit_type t i = (if has_bit i t then Some Truth else None)

-- `e{high:low}`: whether a vector has the bits from `low` to `high`
abbrev pub has_slice : ℕ → ℕ → Ty → Bool
has_slice high low t = is_vector t && (nat_le low high && nat_lt high (width_of t))

abbrev pub slice_type : Ty → ℕ → ℕ → Option Ty
slice_type t high low = (if has_slice high low t then Some (Bv (high - low + 1)) else None)

-- `a @ b`: whether a vector of both widths together is not too wide
abbrev pub has_room : Ty → Ty → Bool
has_room s t = nat_le (width_of s + width_of t) 64

abbrev pub concat_type : Ty → Ty → Option Ty
concat_type s t =
    (if is_vector s && (is_vector t && has_room s t) then Some (Bv (width_of s + width_of t)) else None)
