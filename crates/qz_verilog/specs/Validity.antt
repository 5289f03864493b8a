-- Which modules are valid: those that can be written, and mean what is written.
use Rattle.std.specs.Prelude.{◌≡◌, List, [], ◌∷◌, ◌++◌, map, Some, IsTrue}
use Rattle.std.specs.List.{AllByRecursion}
use Rattle.qz_values.specs.declared.Ty.{Ty}
use Rattle.qz_values.specs.declared.Value.{Value}
use Rattle.qz_values.specs.Types.{IsType}
use Rattle.qz_values.specs.Values.{type_of, IsValue}
use Rattle.qz_syntax.specs.declared.names.Name.{Name}
use Rattle.qz_syntax.specs.declared.declarations.Port.{Port}
use Rattle.qz_syntax.specs.DoubleNames.{are_distinct}
use Rattle.qz_verilog.specs.declared.nets.Ref.{Ref}
use Rattle.qz_verilog.specs.declared.nets.Rhs.{Rhs}
use Rattle.qz_verilog.specs.declared.modules.VModule.{VModule}
use Rattle.qz_verilog.specs.Types.{NetTypes, net_type, right_side_type}

abbrev pub port_types : List Port → List Ty
port_types ports = map (λ (port : Port). port.ty) ports

abbrev pub port_names : List Port → List Name
port_names ports = map (λ (port : Port). port.name) ports

-- a register is of its initial value's type
abbrev pub register_types : List Value → List Ty
register_types values = map type_of values

abbrev pub wire_types : List (Ty × Rhs) → List Ty
wire_types wires = map (λ (wire : Ty × Rhs). wire.0) wires

-- the types of the nets that inputs, registers and wires declare
abbrev pub declared_types : List Port → List Value → List (Ty × Rhs) → NetTypes
declared_types inputs registers wires =
    record { inputs = port_types inputs; registers = register_types registers; wires = wire_types wires }

-- the types of a module's nets
abbrev pub types_of : VModule → NetTypes
types_of m = declared_types m.inputs m.regs m.wires

-- those types, and one wire more
abbrev pub with_wire : NetTypes → Ty → NetTypes
with_wire types t = record types { wires = types.wires ++ t ∷ [] }

-- a wire after those that are declared: it is of its right side's type
abbrev pub IsWire : NetTypes → Ty × Rhs → Type 0
IsWire types wire = right_side_type types wire.1 ≡ Some wire.0

-- wires after those that are declared: each right side reads inputs, registers and earlier wires alone
abbrev pub AreWires : NetTypes → List (Ty × Rhs) → Type 0
AreWires types [] = Unit {0}
AreWires types (wire ∷ wires) = IsWire types wire × AreWires (with_wire types wire.0) wires

-- a net of this type, which may drive an output of the type, or be what a register of the type takes
abbrev pub IsNetOf : NetTypes → Ty → Ref → Type 0
IsNetOf types t net = net_type types net ≡ Some t

-- as many nets as types, each of its type
abbrev pub AreNetsOf : NetTypes → List Ty → List Ref → Type 0
AreNetsOf types [] [] = Unit {0}
AreNetsOf types [] (net ∷ nets) = ⊥
AreNetsOf types (t ∷ ts) [] = ⊥
AreNetsOf types (t ∷ ts) (net ∷ nets) = IsNetOf types t net × AreNetsOf types ts nets

pub record IsValid (m : VModule) : Type 0 where
  -- no two inputs or outputs have one name, nor has an input an output's
  pub names : IsTrue (are_distinct (port_names (m.inputs ++ m.outputs)))
  pub inputs : AllByRecursion IsType (port_types m.inputs)
  pub registers : AllByRecursion IsValue m.regs
  pub wires : AreWires (declared_types m.inputs m.regs []) m.wires
  -- each output has a net that drives it
  pub outs : AreNetsOf (types_of m) (port_types m.outputs) m.outs
  -- each register has a net that it takes
  pub nexts : AreNetsOf (types_of m) (register_types m.regs) m.nexts
