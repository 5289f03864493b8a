-- Where control rests in a shape, as numbers of the table of diagrams.
use Rattle.std.specs.Prelude.{ℕ, ◌<◌, ◌≡◌, ◌||◌, Bool, false, List, length, slice_index_or}
use Rattle.qz_dd.specs.declared.node.DdId.{DdId}
use Rattle.qz_dd.specs.declared.table.Table.{Table}
use Rattle.qz_dd.specs.Tables.{Reading, Reads, count}
use Rattle.qz_rails.specs.Bits.{bits_in}
use Rattle.qz_system.specs.declared.resting.Resting.{Resting}
use Rattle.qz_system.specs.declared.shape.Shape.{Shape}
use Rattle.qz_system.specs.Restings.{resting, living_of}
use Rattle.qz_symbolic.specs.declared.resting.Placing.{Placing}

-- the value of the number that stands there; false where there is none
abbrev pub value_at : Reading → List DdId → ℕ → Bool
value_at reading numbers n = slice_index_or (bits_in reading numbers) n false

-- its numbers are of the table
pub record IsPlacing (table : Table) (placing : Placing) : Type 0 where
  pub nowhere : placing.nowhere.0 < count table
  pub somewhere : placing.somewhere.0 < count table

-- where control rests at the reading's valuation
abbrev pub resting_at : Reading → Placing → Resting
resting_at reading placing = resting (reading.values placing.nowhere.0) (reading.values placing.somewhere.0)

-- wherever the table is read, the placing says this
abbrev pub CarriesResting : Table → Placing → (Reading → Resting) → Type 0
CarriesResting table placing f = (reading : Reading) → Reads reading table → resting_at reading placing ≡ f reading

-- wherever the table is read, a number says whether control rests at places of a shape
abbrev pub CarriesRests : Table → List DdId → Shape → ℕ → Type 0
CarriesRests table places shape d =
    (reading : Reading) → Reads reading table → (cell : ℕ) → (living_of (value_at reading places) cell shape).rests ≡ reading.values d

-- wherever the table is read, the new list says for each cell what the old one said, or that control rests in a scope
-- of the cell in the shape
abbrev pub CarriesLives : Table → List DdId → Shape → List DdId → List DdId → Type 0
CarriesLives table places shape old new =
    (reading : Reading) → Reads reading table → (cell : ℕ) → cell < length old →
    value_at reading new cell ≡ value_at reading old cell || (living_of (value_at reading places) cell shape).lives
