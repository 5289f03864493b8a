-- Numbers of the table of diagrams that say something of the valuation that the variables spell.
use Rattle.std.specs.Prelude.{ℕ, ◌<◌, ◌≡◌, Bool, List, length, Some, slice_get}
use Rattle.std.specs.List.{All}
use Rattle.qz_dd.specs.declared.node.DdId.{DdId}
use Rattle.qz_dd.specs.declared.table.Table.{Table}
use Rattle.qz_dd.specs.Tables.{Reading, Reads, count}
use Rattle.qz_rails.specs.Bits.{number_of, bits_in}
use Rattle.qz_tallies.specs.declared.stored.Stored.{Stored}
use Rattle.qz_tallies.specs.Stores.{AreStored}
use Rattle.qz_system.specs.declared.parts.Cell.{Cell}
use Rattle.qz_system.specs.declared.parts.SystemParts.{SystemParts}
use Rattle.qz_system.specs.declared.valuation.Valuation.{Valuation}
use Rattle.qz_system.specs.Valuations.{store_of, lives_at}
use Rattle.qz_symbolic.specs.Variables.{Spells}
use Rattle.qz_symbolic.specs.Placings.{value_at}

-- the table is read at bits that spell the valuation
pub record Views (table : Table) (parts : SystemParts) (v : Valuation) (reading : Reading) : Type 0 where
  pub reads : Reads reading table
  pub spells : Spells parts v reading.bits

-- wherever the table is read at bits that spell a valuation, the number says this of it
abbrev pub CarriesBit : Table → SystemParts → ℕ → (Valuation → Bool) → Type 0
CarriesBit table parts d f = (reading : Reading) (v : Valuation) → Views table parts v reading → reading.values d ≡ f v

-- the numbers say at which places control rests
pub record ArePlaces (table : Table) (parts : SystemParts) (places : List DdId) : Type 0 where
  pub below : All (λ x. x.0 < count table) places
  pub says : (reading : Reading) (v : Valuation) → Views table parts v reading → bits_in reading places ≡ v.places.items

-- what is stored of a cell
pub record IsStoreOf (table : Table) (parts : SystemParts) (n : ℕ) (cell : Cell) (stored : Stored) : Type 0 where
  pub fits : AreStored table cell.ty stored
  pub pending : (reading : Reading) (v : Valuation) → Views table parts v reading → reading.values stored.pending.0 ≡ (store_of v n).0
  pub bits : (reading : Reading) (v : Valuation) → Views table parts v reading → number_of (bits_in reading stored.bits.items) ≡ (store_of v n).1

-- what is stored of each cell
pub record AreStoresOf (table : Table) (parts : SystemParts) (stores : List Stored) : Type 0 where
  pub long : length stores ≡ length parts.cells
  pub each : (n : ℕ) (cell : Cell) (stored : Stored) → slice_get parts.cells n ≡ Some cell → slice_get stores n ≡ Some stored →
      IsStoreOf table parts n cell stored

-- for each cell, whether control rests in its scope
pub record AreLives (table : Table) (parts : SystemParts) (lives : List DdId) : Type 0 where
  pub long : length lives ≡ length parts.cells
  pub below : All (λ x. x.0 < count table) lives
  pub says : (reading : Reading) (v : Valuation) → Views table parts v reading → (n : ℕ) → n < length parts.cells → value_at reading lives n ≡ lives_at parts v n
