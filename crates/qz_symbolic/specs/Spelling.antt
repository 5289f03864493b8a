-- What is read of a cell and of an input where bits of the variables are given.
use Rattle.std.specs.Prelude.{ℕ, ◌≡◌, Bool, false, List, map, Some, slice_get, slice_index_or}
use Rattle.qz_rails.specs.Bits.{number_of}
use Rattle.qz_symbolic.specs.declared.variables.CellVariables.{CellVariables}
use Rattle.qz_symbolic.specs.declared.variables.InputVariables.{InputVariables}
use Rattle.qz_symbolic.specs.declared.variables.Variables.{Variables}

-- the number whose bits, the lowest first, are those of these variables
abbrev pub spelled_number : List Bool → List ℕ → ℕ
spelled_number bits variables = number_of (map (λ v. slice_index_or bits v false) variables)

-- the store that the variables of a cell spell
pub record IsStoreRead (variables : Variables) (bits : List Bool) (n : ℕ) (store : Bool × ℕ) : Type 0 where
  pub read : (own : CellVariables) → slice_get variables.cells.items n ≡ Some own → store ≡ (slice_index_or bits own.mark false, spelled_number bits own.bits.items)

-- the value that the variables of an input spell
pub record IsInputRead (variables : Variables) (bits : List Bool) (n value : ℕ) : Type 0 where
  pub read : (own : InputVariables) → slice_get variables.inputs.items n ≡ Some own → value ≡ spelled_number bits own.bits.items
