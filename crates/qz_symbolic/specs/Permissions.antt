-- Where valuations are permitted, as numbers of the table of diagrams.
use Rattle.std.specs.Prelude.{ℕ, ◌≡◌}
use Rattle.qz_dd.specs.declared.table.Table.{Table}
use Rattle.qz_dd.specs.Tables.{Reading, Reads}
use Rattle.qz_system.specs.declared.parts.SystemParts.{SystemParts}
use Rattle.qz_system.specs.declared.valuation.Valuation.{Valuation}
use Rattle.qz_system.specs.Valuations.{is_permitted}
use Rattle.qz_symbolic.specs.Variables.{Spells}

-- the number is true exactly where the bits spell a permitted valuation. Each valuation that fits is spelled by some
-- bits, and each list of bits that is long enough spells one
pub record SaysPermitted (table : Table) (parts : SystemParts) (d : ℕ) : Type 0 where
  pub says : (reading : Reading) → Reads reading table → (v : Valuation) → Spells parts v reading.bits →
      reading.values d ≡ is_permitted parts v
