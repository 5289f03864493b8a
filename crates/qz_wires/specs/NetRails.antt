-- Rails of the leaves and of the nets of a table of nets.
use Rattle.std.specs.Prelude.{ℕ, ◌≡◌, List, Some, slice_get}
use Rattle.qz_values.specs.declared.Ty.{Ty}
use Rattle.qz_nets.specs.declared.net.Net.TheVariants as net
use Rattle.qz_nets.specs.declared.table.NetTable.{NetTable}
use Rattle.qz_nets.specs.Readings.{net_in, type_in}
use Rattle.qz_verilog.specs.Types.{NetTypes}
use Rattle.qz_wires.specs.declared.rails.Rail.{Rail}
use Rattle.qz_wires.specs.Rails.{IsRail}

-- there is a rail of this number, and it is one of the type
pub record HasRail (types : NetTypes) (ty : Ty) (rails : List Rail) (n : ℕ) : Type 0 where
  pub rail : Rail
  pub is : slice_get rails n ≡ Some rail
  pub fits : IsRail types ty rail

-- each leaf of the nets has a rail of its type
pub record AreLeafRails (types : NetTypes) (nets : NetTable) (leaves : List Rail) : Type 0 where
  pub each : (n number : ℕ) (ty : Ty) → net_in nets n ≡ Some (net.Leaf number ty) → HasRail types ty leaves number

-- each rail is one of its net's type
pub record AreNetRails (types : NetTypes) (nets : NetTable) (rails : List Rail) : Type 0 where
  pub each : (n : ℕ) (ty : Ty) (rail : Rail) → type_in nets n ≡ Some ty → slice_get rails n ≡ Some rail → IsRail types ty rail
