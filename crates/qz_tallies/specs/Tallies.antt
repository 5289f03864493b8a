-- What a tally says under a reading of the table of diagrams.
use Rattle.std.specs.Prelude.{◌<◌, ◌≡◌, Bool, true, not, ◌&&◌, ◌||◌, List, length, if◌then◌else◌}
use Rattle.std.specs.List.{All}
use Rattle.qz_dd.specs.declared.table.Table.{Table}
use Rattle.qz_dd.specs.Tables.{Reading, Reads, count}
use Rattle.qz_values.specs.declared.Ty.{Ty}
use Rattle.qz_values.specs.declared.Value.{Value}
use Rattle.qz_values.specs.Types.{width_of}
use Rattle.qz_values.specs.Values.{value_of}
use Rattle.qz_meaning.specs.Verdicts.{Verdict, Nobody, Open, One, Torn}
use Rattle.qz_rails.specs.Bits.{number_of, bits_in, same_from}
use Rattle.qz_tallies.specs.declared.tally.Tally.{Tally}

-- its numbers are of the table, and it has a bit for each bit of the type
pub record IsTally (table : Table) (ty : Ty) (tally : Tally) : Type 0 where
  pub torn : tally.torn.0 < count table
  pub one : tally.one.0 < count table
  pub nobody : tally.nobody.0 < count table
  pub bits : All (λ d. d.0 < count table) tally.bits.items
  pub width : length tally.bits.items ≡ width_of ty

-- a contradiction counts before a value, and that before nobody
abbrev pub said : Bool → Bool → Bool → Value → Verdict
said torn one nobody v = (if torn then Torn else if one then One v else if nobody then Nobody else Open)

-- the verdict at the reading's valuation
abbrev pub verdict_in : Reading → Ty → Tally → Verdict
verdict_in reading ty tally =
    said (reading.values tally.torn.0) (reading.values tally.one.0) (reading.values tally.nobody.0)
    (value_of ty (number_of (bits_in reading tally.bits.items)))

-- wherever the table is read the tally says this: at every valuation, since each has a reading
abbrev pub CarriesVerdict : Table → Ty → Tally → (Reading → Verdict) → Type 0
CarriesVerdict table ty tally f = (reading : Reading) → Reads reading table → verdict_in reading ty tally ≡ f reading

-- whether the writers of two tallies contradict one another: those of one do, or both agree on values that differ
abbrev pub are_torn : Bool → Bool → List Bool → Bool → Bool → List Bool → Bool
are_torn a_torn a_one xs b_torn b_one ys = (a_torn || b_torn) || ((a_one && b_one) && not (same_from true xs ys))
