-- Which wires are sound: each reads what is declared before it, and is of its right side's type.
use Rattle.std.specs.Prelude.{ℕ, ◌≡◌, List, Some, take, slice_get}
use Rattle.qz_values.specs.declared.Ty.{Ty}
use Rattle.qz_values.specs.declared.Value.{Value}
use Rattle.qz_syntax.specs.declared.declarations.Port.{Port}
use Rattle.qz_verilog.specs.declared.nets.Rhs.{Rhs}
use Rattle.qz_verilog.specs.Validity.{declared_types, IsWire}

pub record AreSound (inputs : List Port) (regs : List Value) (wires : List (Ty × Rhs)) : Type 0 where
  pub each : (n : ℕ) (wire : Ty × Rhs) → slice_get wires n ≡ Some wire → IsWire (declared_types inputs regs (take n wires)) wire
