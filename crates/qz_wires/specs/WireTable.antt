-- A table of wires: which types its nets have, what it says of values of nets, and what stays as it grows.
use Rattle.std.specs.Prelude.{◌≡◌, Bool, List, Some}
use Rattle.qz_values.specs.declared.Ty.{Ty}
use Rattle.qz_values.specs.declared.Value.{Value}
use Rattle.qz_values.specs.Values.{is_yes}
use Rattle.qz_verilog.specs.declared.nets.Ref.{Ref}
use Rattle.qz_verilog.specs.declared.nets.Rhs.{Rhs}
use Rattle.qz_verilog.specs.Types.{NetTypes, net_type}
use Rattle.qz_verilog.specs.Validity.{declared_types}
use Rattle.qz_verilog.specs.Meaning.{Nets, value_at, Satisfies}
use Rattle.qz_wires.specs.declared.wires.Wires.{Wires}

-- the wires, each with its type
abbrev pub rights : Wires → List (Ty × Rhs)
rights wires = wires.table.keys

-- the types of the nets that may be read
abbrev pub types_in : Wires → NetTypes
types_in wires = declared_types wires.inputs wires.regs (rights wires)

-- values of nets that satisfy each wire
pub record Reads (nets : Nets) (wires : Wires) : Type 0 where
  pub assigned : Satisfies (rights wires) nets

-- whatever satisfies the wires, the net has this value. What satisfies a table that grew satisfies the older one
-- (`Extends`), so what was carried is carried on
abbrev pub Carries : Wires → Ref → (Nets → Value) → Type 0
Carries wires net value = (nets : Nets) → Reads nets wires → value_at nets net ≡ value nets

-- whatever satisfies the wires, the net is the bool `true` or isn't
abbrev pub CarriesFlag : Wires → Ref → (Nets → Bool) → Type 0
CarriesFlag wires net flag = (nets : Nets) → Reads nets wires → is_yes (value_at nets net) ≡ flag nets

-- the new table has the old one's wires under their numbers, over the same inputs and registers
pub record Extends (old new : Wires) : Type 0 where
  pub same_inputs : new.inputs ≡ old.inputs
  pub same_regs : new.regs ≡ old.regs
  pub types : (net : Ref) (ty : Ty) → net_type (types_in old) net ≡ Some ty → net_type (types_in new) net ≡ Some ty
  pub reads : (nets : Nets) → Reads nets new → Reads nets old
