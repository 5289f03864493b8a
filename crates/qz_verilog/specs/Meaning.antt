-- What the wires of a module settle to, after IEEE 1364-2005.
use Rattle.std.specs.Prelude.{ℕ, ◌≡◌, List, length, Some, slice_get, slice_index_or, if◌then◌else◌}
use Rattle.qz_values.specs.declared.Ty.{Ty}
use Rattle.qz_values.specs.declared.Value.{Value}
use Rattle.qz_values.specs.Values.{type_of, no, is_yes}
use Rattle.qz_values.specs.Operators.{value1, value2, value_bit, value_slice, value_concat}
use Rattle.qz_verilog.specs.declared.nets.Ref.{Ref}
use Rattle.qz_verilog.specs.declared.nets.Ref.TheVariants as net
use Rattle.qz_verilog.specs.declared.nets.Rhs.{Rhs}
use Rattle.qz_verilog.specs.declared.nets.Rhs.TheVariants as rhs
use Rattle.qz_verilog.specs.Types.{inversion_of}

-- values of the nets, each at its number
pub record Nets : Type 0 where
  pub inputs : List Value
  pub registers : List Value
  pub wires : List Value

-- the value of a net; a valid module reads no other number than those that there are
abbrev pub value_at : Nets → Ref → Value
value_at nets (net.Input number) = slice_index_or nets.inputs number no
value_at nets (net.Reg number) = slice_index_or nets.registers number no
value_at nets (net.Wire number) = slice_index_or nets.wires number no

abbrev pub inverted : Value → Value
inverted v = value1 (inversion_of (type_of v)) v

-- the value of a right side
abbrev pub right_side : Nets → Rhs → Value
right_side nets (rhs.Const value) = value
right_side nets (rhs.Invert a) = inverted (value_at nets a)
right_side nets (rhs.Bin op a b) = value2 op (value_at nets a) (value_at nets b)
right_side nets (rhs.Choose c a b) = (if is_yes (value_at nets c) then value_at nets a else value_at nets b)
right_side nets (rhs.Bit a i) = value_bit (value_at nets a) i
right_side nets (rhs.Slice a high low) = value_slice (value_at nets a) high low
right_side nets (rhs.Concat a b) = value_concat (value_at nets a) (value_at nets b)

-- values that satisfy every assignment
abbrev pub Satisfies : List (Ty × Rhs) → Nets → Type 0
Satisfies wires nets =
    (number : ℕ) (wire : Ty × Rhs) → slice_get wires number ≡ Some wire →
    value_at nets (net.Wire number) ≡ right_side nets wire.1

-- settled values: any values of the wires, one for each, that satisfy every assignment
pub record Settles (wires : List (Ty × Rhs)) (nets : Nets) : Type 0 where
  pub each : length nets.wires ≡ length wires
  pub assigned : Satisfies wires nets
