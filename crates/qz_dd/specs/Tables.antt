-- A table of diagrams: what its numbers are, and what stays as it grows.
use Rattle.std.specs.Prelude.{ℕ, ◌+◌, ◌<◌, ◌≤◌, ◌≡◌, Bool, false, cond, List, length, slice_index_or}
use Rattle.qz_dd.specs.declared.table.Table.{Table}
use Rattle.qz_dd.specs.Nodes.{value, level}

-- how many numbers there are: each below it is in range
abbrev pub count : Table → ℕ
count table = length table.nodes.keys + 2

-- the value of a number at these bits
abbrev pub value_in : Table → ℕ → List Bool → Bool
value_in table d bits = value table.nodes.keys d bits

-- the variable that a number reads first; a constant has the number of variables
abbrev pub level_in : Table → ℕ → ℕ
level_in table d = level table.vars table.nodes.keys d

-- bits, and a value for each number
pub record Reading : Type 0 where
  pub bits : List Bool
  pub values : ℕ → Bool

-- the values are those that the table's numbers have at the bits
pub record Reads (reading : Reading) (table : Table) : Type 0 where
  pub each : (d : ℕ) → d < count table → reading.values d ≡ value_in table d reading.bits

-- wherever the table is read, the number has this value. A table that grew has no readings but those that the
-- older one had (`Extends`), so what was carried is carried on
abbrev pub Carries : Table → ℕ → (Reading → Bool) → Type 0
Carries table d f = (reading : Reading) → Reads reading table → reading.values d ≡ f reading

-- the new table has the old one's numbers, and they keep their functions
pub record Extends (old new : Table) : Type 0 where
  pub vars : new.vars ≡ old.vars
  pub longer : count old ≤ count new
  pub values : (d : ℕ) → d < count old → (bits : List Bool) → value_in new d bits ≡ value_in old d bits
  pub levels : (d : ℕ) → d < count old → level_in new d ≡ level_in old d
  pub reads : (reading : Reading) → Reads reading new → Reads reading old

-- two numbers have the same value at every assignment of the table's variables
abbrev pub AreEqual : Table → ℕ → ℕ → Type 0
AreEqual table a b = (bits : List Bool) → length bits ≡ table.vars → value_in table a bits ≡ value_in table b bits

-- equal functions have equal numbers
pub record IsCanonical (table : Table) : Type 0 where
  pub equal : (a b : ℕ) → a < count table → b < count table → AreEqual table a b → a ≡ b

-- the function d, where the variable has this value
pub record IsCofactor (table : Table) (var : ℕ) (side : Bool) (d cofactor : ℕ) : Type 0 where
  pub below : cofactor < count table
  pub later : var < level_in table cofactor
  pub value : (bits : List Bool) → slice_index_or bits var false ≡ side → value_in table cofactor bits ≡ value_in table d bits
  pub least : cofactor ≤ d
  pub less : level_in table d ≡ var → cofactor < d

-- d is high where the variable is true, else low
pub record IsMade (table : Table) (var low high d : ℕ) : Type 0 where
  pub below : d < count table
  pub later : var ≤ level_in table d
  pub value : (bits : List Bool) → value_in table d bits ≡ cond (slice_index_or bits var false) (value_in table high bits) (value_in table low bits)
