-- The types of nets and of right sides.
use Rattle.std.specs.Prelude.{◌^◌, Bool, true, false, ◌&&◌, nat_lt, List, Option, Some, None, slice_get, if◌then◌else◌}
use Rattle.std.specs.Option.{option_and_then}
use Rattle.qz_values.specs.declared.Ty.{Ty}
use Rattle.qz_values.specs.declared.Ty.TheVariants as ty
use Rattle.qz_values.specs.declared.Value.{Value}
use Rattle.qz_values.specs.declared.Op1.{Op1}
use Rattle.qz_values.specs.declared.Op1.TheVariants as op1
use Rattle.qz_values.specs.declared.Op2.{Op2}
use Rattle.qz_values.specs.declared.Op2.TheVariants as op2
use Rattle.qz_values.specs.Types.{width_of, is_type}
use Rattle.qz_values.specs.Values.{type_of, bits_of}
use Rattle.qz_values.specs.Tables.{type1_of, type2_of, choose_type, bit_type, slice_type, concat_type}
use Rattle.qz_verilog.specs.declared.nets.Ref.{Ref}
use Rattle.qz_verilog.specs.declared.nets.Ref.TheVariants as net
use Rattle.qz_verilog.specs.declared.nets.Rhs.{Rhs}
use Rattle.qz_verilog.specs.declared.nets.Rhs.TheVariants as rhs

-- the types of the nets that may be read, each at its number
pub record NetTypes : Type 0 where
  pub inputs : List Ty
  pub registers : List Ty
  pub wires : List Ty

-- the type of a net; `None` where no net has this number
abbrev pub net_type : NetTypes → Ref → Option Ty
net_type types (net.Input number) = slice_get types.inputs number
net_type types (net.Reg number) = slice_get types.registers number
net_type types (net.Wire number) = slice_get types.wires number

-- what a table of types gives of operands, each of which has a type or none
abbrev pub given1 : (Ty → Option Ty) → Option Ty → Option Ty
given1 table a = option_and_then table a

abbrev pub given2 : (Ty → Ty → Option Ty) → Option Ty → Option Ty → Option Ty
given2 table a b = option_and_then (λ s. given1 (table s) b) a

abbrev pub given3 : (Ty → Ty → Ty → Option Ty) → Option Ty → Option Ty → Option Ty → Option Ty
given3 table a b c = option_and_then (λ r. given2 (table r) b c) a

-- whether its number is one that its type's bits hold, as a test
abbrev pub is_value : Value → Bool
is_value v = is_type (type_of v) && nat_lt (bits_of v) (2 ^ width_of (type_of v))

-- the type of a constant
abbrev pub constant_type : Value → Option Ty
constant_type value = (if is_value value then Some (type_of value) else None)

-- the operator of the language that `~` is
abbrev pub inversion_of : Ty → Op1
inversion_of ty.Bool = op1.Not
inversion_of (ty.Bv w) = op1.Invert

abbrev pub inverted_type : Ty → Option Ty
inverted_type t = type1_of (inversion_of t) t

-- whether there is a sign for the operator
abbrev pub has_sign : Op2 → Bool
has_sign op2.Imp = false
has_sign op = true

-- the type of a right side; `None` where it is none that can be written, reads a net that isn't declared, or has
-- operands of types that its operator doesn't take
abbrev pub right_side_type : NetTypes → Rhs → Option Ty
right_side_type types (rhs.Const value) = constant_type value
right_side_type types (rhs.Invert a) = given1 inverted_type (net_type types a)
right_side_type types (rhs.Bin op a b) =
    (if has_sign op then given2 (type2_of op) (net_type types a) (net_type types b) else None)
right_side_type types (rhs.Choose c a b) = given3 choose_type (net_type types c) (net_type types a) (net_type types b)
right_side_type types (rhs.Bit a i) = given1 (λ t. bit_type t i) (net_type types a)
right_side_type types (rhs.Slice a high low) = given1 (λ t. slice_type t high low) (net_type types a)
right_side_type types (rhs.Concat a b) = given2 concat_type (net_type types a) (net_type types b)
