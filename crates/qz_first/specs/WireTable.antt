-- A table of wires as it grows: the values that settle it, and the nets that it declares.
use Rattle.std.specs.Prelude.{ℕ, Bool, ◌≡◌, ◌≤◌, List, length, Some, slice_get}
use Rattle.qz_first.specs.declared.wires.Wires.{Wires}
use Rattle.qz_verilog.specs.declared.nets.Ref.{Ref}
use Rattle.qz_verilog.specs.declared.nets.Rhs.{Rhs}
use Rattle.qz_first.specs.BitNets.{Nets, bit_at, Settles, IsDeclared, IsRightSide}

-- the right sides in the order of the wires' numbers
abbrev pub rights : Wires → List Rhs
rights wires = wires.table.keys

-- values of the nets that settle the table
pub record Reads (nets : Nets) (wires : Wires) : Type 0 where
  pub settles : Settles (rights wires) nets

-- whatever settles the table, the net has this value
abbrev pub Carries : Wires → Ref → (Nets → Bool) → Type 0
Carries wires net value = (nets : Nets) → Reads nets wires → bit_at nets net ≡ value nets

-- a net that is a register, or one of the wires
pub record Has (registers : ℕ) (wires : Wires) (net : Ref) : Type 0 where
  pub declared : IsDeclared registers (length (rights wires)) net

-- each right side reads registers and earlier wires alone
pub record IsSound (registers : ℕ) (wires : Wires) : Type 0 where
  pub each : (number : ℕ) (right : Rhs) → slice_get (rights wires) number ≡ Some right → IsRightSide registers number right

-- a table of which each right side reads registers and earlier wires alone, and one of its nets
pub record Declares (registers : ℕ) (wires : Wires) (net : Ref) : Type 0 where
  pub sound : IsSound registers wires
  pub has : Has registers wires net

-- what settles the new table settles the old one, which is no longer
pub record Extends (old new : Wires) : Type 0 where
  pub reads : (nets : Nets) → Reads nets new → Reads nets old
  pub longer : length (rights old) ≤ length (rights new)
