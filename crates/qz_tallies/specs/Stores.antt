-- What is stored of a variable under a reading of the table, and how delayed values are told as rails.
use Rattle.std.specs.Prelude.{◌<◌, ◌≡◌, length}
use Rattle.std.specs.List.{All}
use Rattle.qz_dd.specs.declared.table.Table.{Table}
use Rattle.qz_dd.specs.Tables.{Reading, count}
use Rattle.qz_values.specs.declared.Ty.{Ty}
use Rattle.qz_values.specs.declared.Value.{Value}
use Rattle.qz_values.specs.declared.Know.{Know}
use Rattle.qz_values.specs.declared.Know.TheVariants as know
use Rattle.qz_values.specs.Types.{width_of}
use Rattle.qz_values.specs.Values.{value_of, default_of}
use Rattle.qz_syntax.specs.declared.places.Later.{Later}
use Rattle.qz_syntax.specs.declared.places.Later.TheVariants as later
use Rattle.qz_syntax.specs.declared.places.Store.{Store}
use Rattle.qz_meaning.specs.Verdicts.{Verdict, Nobody, Open, One, Torn}
use Rattle.qz_rails.specs.Bits.{number_of, bits_in}
use Rattle.qz_tallies.specs.declared.stored.Stored.{Stored}

-- its numbers are of the table, and it has a bit for each bit of the type
pub record AreStored (table : Table) (ty : Ty) (stored : Stored) : Type 0 where
  pub pending : stored.pending.0 < count table
  pub bits : All (λ d. d.0 < count table) stored.bits.items
  pub width : length stored.bits.items ≡ width_of ty

-- the store at the reading's valuation
abbrev pub store_in : Reading → Ty → Stored → Store
store_in reading ty stored = record {
  value = value_of ty (number_of (bits_in reading stored.bits.items));
  pending = reading.values stored.pending.0;
}

-- what a verdict settles to, with this value where no writer is enabled
abbrev pub settled_by : Value → Verdict → Know
settled_by otherwise Nobody = know.Known otherwise
settled_by otherwise Open = know.Unknown
settled_by otherwise (One v) = know.Known v
settled_by otherwise Torn = know.Clash

-- a delayed value as knowledge of a value: an absent one as the default
abbrev pub later_known : Ty → Later → Know
later_known t later.Unknown = know.Unknown
later_known t later.Absent = know.Known (default_of t)
later_known t (later.Known v) = know.Known v
later_known t later.Clash = know.Clash
