-- Rails of leaves and of nets: what each says under a reading of the table of diagrams, where the table of nets
-- is read by what the leaves' rails say.
use Rattle.std.specs.Prelude.{ℕ, ◌<◌, ◌≡◌, List, length, Option, Some, slice_get}
use Rattle.std.specs.Option.{option_map_or}
use Rattle.qz_dd.specs.declared.table.Table.{Table}
use Rattle.qz_dd.specs.Tables.{Reading, Reads}
use Rattle.qz_values.specs.declared.Ty.{Ty}
use Rattle.qz_values.specs.declared.Know.{Know}
use Rattle.qz_values.specs.declared.Know.TheVariants.{Unknown}
use Rattle.qz_nets.specs.declared.net.Net.TheVariants as net
use Rattle.qz_nets.specs.declared.table.NetTable.{NetTable}
use Rattle.qz_nets.specs.Readings.{net_in, type_in, Reading as NetReading, Reads as ReadsNets}
use Rattle.qz_rails.specs.declared.rail.Rail.{Rail}
use Rattle.qz_rails.specs.Rails.{IsRail, know_in}

-- what the rail of this number says of a value of the type; nothing is known where there is none
abbrev pub know_at : Reading → Ty → List Rail → ℕ → Know
know_at reading ty rails n = option_map_or (λ (rail : Rail). know_in reading ty rail) (slice_get rails n) Unknown

-- there is a rail of this number, and it is one of the type
pub record HasRail (table : Table) (ty : Ty) (rails : List Rail) (n : ℕ) : Type 0 where
  pub rail : Rail
  pub is : slice_get rails n ≡ Some rail
  pub fits : IsRail table ty rail

-- each leaf of the nets has a rail of its type
pub record AreLeafRails (table : Table) (nets : NetTable) (leaves : List Rail) : Type 0 where
  pub each : (n number : ℕ) (ty : Ty) → net_in nets n ≡ Some (net.Leaf number ty) → HasRail table ty leaves number

-- this knowledge of leaves is what their rails say
pub record AreSaid (reading : Reading) (nets : NetTable) (leaves : List Rail) (leaf : ℕ → Know) : Type 0 where
  pub each : (n number : ℕ) (ty : Ty) → net_in nets n ≡ Some (net.Leaf number ty) → leaf number ≡ know_at reading ty leaves number

-- the rail says at every valuation what is known of the net of this number where the leaves are known as their
-- rails say there
pub record IsNetRail (table : Table) (nets : NetTable) (leaves : List Rail) (n : ℕ) (ty : Ty) (rail : Rail) : Type 0 where
  pub fits : IsRail table ty rail
  pub says : (reading : Reading) → Reads reading table → (v : NetReading) → ReadsNets v nets → AreSaid reading nets leaves v.leaf →
      know_in reading ty rail ≡ v.know n

-- the rails are those of the first nets, as many as there are
pub record AreNetRails (table : Table) (nets : NetTable) (leaves rails : List Rail) : Type 0 where
  pub each : (n : ℕ) (ty : Ty) (rail : Rail) → type_in nets n ≡ Some ty → slice_get rails n ≡ Some rail →
      IsNetRail table nets leaves n ty rail
