-- How types, constants, nets and right sides are spelled, after IEEE 1364-2005.
use Rattle.std.specs.Prelude.{ℕ, ◌-◌, List, [], ◌++◌, codes, slice_get}
use Rattle.std.specs.Option.{option_map_or}
use Rattle.std.specs.Fmt.{decimal}
use Rattle.qz_values.specs.declared.Ty.{Ty}
use Rattle.qz_values.specs.declared.Ty.TheVariants as ty
use Rattle.qz_values.specs.declared.Value.{Value}
use Rattle.qz_values.specs.declared.Op2.{Op2}
use Rattle.qz_values.specs.declared.Op2.TheVariants as op
use Rattle.qz_values.specs.Values.{type_of, bits_of}
use Rattle.qz_syntax.specs.declared.declarations.Port.{Port}
use Rattle.qz_verilog.specs.declared.nets.Ref.{Ref}
use Rattle.qz_verilog.specs.declared.nets.Ref.TheVariants as net
use Rattle.qz_verilog.specs.declared.nets.Rhs.{Rhs}
use Rattle.qz_verilog.specs.declared.nets.Rhs.TheVariants as rhs
use Rattle.qz_vtext.specs.Names.{name_text}

-- a type, before the name of what is declared: nothing for a bool, the range of its bits for a vector
abbrev pub type_text : Ty → List ℕ
type_text ty.Bool = []
type_text (ty.Bv width) = codes "[" ++ (decimal (width - 1) ++ codes ":0] ")

-- what stands before a constant's number
abbrev pub mark_text : Ty → List ℕ
mark_text ty.Bool = codes "1'b"
mark_text (ty.Bv width) = decimal width ++ codes "'d"

abbrev pub constant_text : Value → List ℕ
constant_text value = mark_text (type_of value) ++ decimal (bits_of value)

-- the spelled name of the port with this number
abbrev pub port_text : List Port → ℕ → List ℕ
port_text ports number = option_map_or (λ (port : Port). name_text port.name) (slice_get ports number) []

-- a net, where these are the inputs
abbrev pub net_text : List Port → Ref → List ℕ
net_text inputs (net.Input number) = codes "i_" ++ port_text inputs number
net_text inputs (net.Reg number) = codes "r_" ++ decimal number
net_text inputs (net.Wire number) = codes "w_" ++ decimal number

-- an operator's sign; `->` isn't one of Verilog, and no right side of a valid module has it
abbrev pub sign_text : Op2 → List ℕ
sign_text op.And = codes "&"
sign_text op.Or = codes "|"
sign_text op.Xor = codes "^"
sign_text op.Imp = codes "->"
sign_text op.Add = codes "+"
sign_text op.Sub = codes "-"
sign_text op.Eq = codes "=="
sign_text op.Ne = codes "!="
sign_text op.Lt = codes "<"
sign_text op.Le = codes "<="
sign_text op.Gt = codes ">"
sign_text op.Ge = codes ">="

abbrev pub binary_text : List ℕ → List ℕ → List ℕ → List ℕ
binary_text a sign b = a ++ (codes " " ++ (sign ++ (codes " " ++ b)))

abbrev pub choice_text : List ℕ → List ℕ → List ℕ → List ℕ
choice_text c a b = c ++ (codes " ? " ++ (a ++ (codes " : " ++ b)))

abbrev pub bit_text : List ℕ → ℕ → List ℕ
bit_text a i = a ++ (codes "[" ++ (decimal i ++ codes "]"))

abbrev pub slice_text : List ℕ → ℕ → ℕ → List ℕ
slice_text a high low = a ++ (codes "[" ++ (decimal high ++ (codes ":" ++ (decimal low ++ codes "]"))))

abbrev pub concat_text : List ℕ → List ℕ → List ℕ
concat_text a b = codes "{" ++ (a ++ (codes ", " ++ (b ++ codes "}")))

abbrev pub right_side_text : List Port → Rhs → List ℕ
right_side_text inputs (rhs.Const value) = constant_text value
right_side_text inputs (rhs.Invert a) = codes "~" ++ net_text inputs a
right_side_text inputs (rhs.Bin op a b) = binary_text (net_text inputs a) (sign_text op) (net_text inputs b)
right_side_text inputs (rhs.Choose c a b) = choice_text (net_text inputs c) (net_text inputs a) (net_text inputs b)
right_side_text inputs (rhs.Bit a i) = bit_text (net_text inputs a) i
right_side_text inputs (rhs.Slice a high low) = slice_text (net_text inputs a) high low
right_side_text inputs (rhs.Concat a b) = concat_text (net_text inputs a) (net_text inputs b)
