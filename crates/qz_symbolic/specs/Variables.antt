-- Which bit of a valuation each diagram variable is.
use Rattle.std.specs.Prelude.{ℕ, ◌≡◌, ◌==◌, nat_lt, Bool, List, [], ◌∷◌, ◌++◌, map, length, Some, slice_get, slice_index_or, if◌then◌else◌}
use Rattle.std.specs.Option.{option_map_or}
use Rattle.std.specs.List.{flat_map, range_with_len}
use Rattle.qz_values.specs.Types.{width_of}
use Rattle.qz_meaning.specs.Valuations.{is_set}
use Rattle.qz_system.specs.declared.parts.SystemParts.{SystemParts}
use Rattle.qz_system.specs.declared.valuation.Valuation.{Valuation}
use Rattle.qz_system.specs.Parts.{cell_type, input_type}
use Rattle.qz_system.specs.Valuations.{Fits, rests_at, store_of}
use Rattle.qz_symbolic.specs.declared.variables.CellVariables.{CellVariables}
use Rattle.qz_symbolic.specs.declared.variables.InputVariables.{InputVariables}
use Rattle.qz_symbolic.specs.declared.variables.Variables.{Variables}

-- a bit of a valuation: whether it is started, whether control rests at a place, a cell's mark, a bit of a cell's
-- value, or a bit of an input. Bit 0 is the lowest
pub data Spot : Type 0 where
  Started : Spot
  At : ℕ → Spot
  Mark : ℕ → Spot
  Stored : ℕ → ℕ → Spot
  Given : ℕ → ℕ → Spot

-- how many bits a cell's value has, and an input
abbrev pub cell_width : SystemParts → ℕ → ℕ
cell_width parts n = option_map_or width_of (cell_type parts n) 0

abbrev pub input_width : SystemParts → ℕ → ℕ
input_width parts n = option_map_or width_of (input_type parts n) 0

-- a cell's bits in the group of j: its mark, in the first group alone, and bit j of its value, if it has that
abbrev pub spots_of_cell : SystemParts → ℕ → ℕ → List Spot
spots_of_cell parts j n =
    (if j == 0 then Spot.Mark n ∷ [] else []) ++ (if nat_lt j (cell_width parts n) then Spot.Stored n j ∷ [] else [])

-- an input's bits in the group of j: bit j of its value, if it has that
abbrev pub spots_of_input : SystemParts → ℕ → ℕ → List Spot
spots_of_input parts j n = if nat_lt j (input_width parts n) then Spot.Given n j ∷ [] else []

-- all bits of a group: the cells', and then the inputs'
abbrev pub spots_of_group : SystemParts → ℕ → List Spot
spots_of_group parts j =
    flat_map (spots_of_cell parts j) (range_with_len 0 (length parts.cells))
    ++ flat_map (spots_of_input parts j) (range_with_len 0 (length parts.inputs))

-- whether it is started, where control rests, and the first groups, so many of them
abbrev pub spots_of_groups : SystemParts → ℕ → List Spot
spots_of_groups parts n =
    Spot.Started ∷ map Spot.At (range_with_len 0 (length parts.places)) ++ flat_map (spots_of_group parts) (range_with_len 0 n)

-- the bits that the valuations of a system have, in the order in which valuations are compared by them: the groups
-- are from bit 0 to bit 63. The diagram variable with number n is the one at n
unfoldable pub spots : SystemParts → List Spot
spots parts = spots_of_groups parts 64

-- a valuation's bit
abbrev pub bit_of : Valuation → Spot → Bool
bit_of v Spot.Started = v.started
bit_of v (Spot.At place) = rests_at v place
bit_of v (Spot.Mark cell) = (store_of v cell).0
bit_of v (Spot.Stored cell j) = is_set j (store_of v cell).1
bit_of v (Spot.Given input j) = is_set j (slice_index_or v.inputs.items input 0)

-- these bits of the diagram variables spell the valuation
pub record Spells (parts : SystemParts) (v : Valuation) (spelled : List Bool) : Type 0 where
  pub fits : Fits parts v
  pub bits : spelled ≡ map (bit_of v) (spots parts)

-- these variables are these bits, one by one
abbrev pub AreSpots : SystemParts → List Spot → List ℕ → Type 0
AreSpots parts wanted variables = map (slice_get (spots parts)) variables ≡ map Some wanted

-- a cell's mark, and the bits of its value, the lowest first
pub record AreOfCell (parts : SystemParts) (cell : ℕ) (variables : CellVariables) : Type 0 where
  pub mark : slice_get (spots parts) variables.mark ≡ Some (Spot.Mark cell)
  pub bits : AreSpots parts (map (Spot.Stored cell) (range_with_len 0 (cell_width parts cell))) variables.bits.items

-- the bits of an input's value, the lowest first
pub record AreOfInput (parts : SystemParts) (input : ℕ) (variables : InputVariables) : Type 0 where
  pub bits : AreSpots parts (map (Spot.Given input) (range_with_len 0 (input_width parts input))) variables.bits.items

-- the variables of each cell and of each input of a system
pub record AreVariables (parts : SystemParts) (variables : Variables) : Type 0 where
  pub count : variables.count ≡ length (spots parts)
  pub cell_count : length variables.cells.items ≡ length parts.cells
  pub cells : (n : ℕ) (one : CellVariables) → slice_get variables.cells.items n ≡ Some one → AreOfCell parts n one
  pub input_count : length variables.inputs.items ≡ length parts.inputs
  pub inputs : (n : ℕ) (one : InputVariables) → slice_get variables.inputs.items n ≡ Some one → AreOfInput parts n one
