-- What a rail says under a reading of the table of diagrams.
use Rattle.std.specs.Prelude.{◌<◌, ◌≡◌, Bool, length, if◌then◌else◌}
use Rattle.std.specs.List.{All}
use Rattle.qz_dd.specs.declared.table.Table.{Table}
use Rattle.qz_dd.specs.Tables.{Reading, Reads, count}
use Rattle.qz_values.specs.declared.Ty.{Ty}
use Rattle.qz_values.specs.declared.Value.{Value}
use Rattle.qz_values.specs.declared.Know.{Know}
use Rattle.qz_values.specs.declared.Know.TheVariants.{Unknown, Known, Clash}
use Rattle.qz_values.specs.Types.{width_of}
use Rattle.qz_values.specs.Values.{value_of}
use Rattle.qz_rails.specs.declared.rail.Rail.{Rail}
use Rattle.qz_rails.specs.Bits.{number_of, bits_in}

-- its numbers are of the table, and it has a bit for each bit of the type
pub record IsRail (table : Table) (ty : Ty) (rail : Rail) : Type 0 where
  pub clash : rail.clash.0 < count table
  pub known : rail.known.0 < count table
  pub bits : All (λ d. d.0 < count table) rail.bits.items
  pub width : length rail.bits.items ≡ width_of ty

-- a contradiction counts before what is known
abbrev pub told : Bool → Bool → Value → Know
told clash known v = (if clash then Clash else if known then Known v else Unknown)

-- what is known at the reading's valuation
abbrev pub know_in : Reading → Ty → Rail → Know
know_in reading ty rail =
    told (reading.values rail.clash.0) (reading.values rail.known.0) (value_of ty (number_of (bits_in reading rail.bits.items)))

-- wherever the table is read the rail says this: at every valuation, since each has a reading
abbrev pub CarriesKnow : Table → Ty → Rail → (Reading → Know) → Type 0
CarriesKnow table ty rail f = (reading : Reading) → Reads reading table → know_in reading ty rail ≡ f reading
