-- The registers of a system's module, and what they and the inputs hold at a valuation.
use Rattle.std.specs.Prelude.{ℕ, ◌≡◌, ◌+◌, Bool, true, false, List, ◌∷◌, ◌++◌, map, length, replicate}
use Rattle.qz_values.specs.declared.Ty.{Ty}
use Rattle.qz_values.specs.declared.Value.{Value}
use Rattle.qz_values.specs.Values.{truth_of, default_of}
use Rattle.qz_verilog.specs.Validity.{port_types}
use Rattle.qz_verilog.specs.Meaning.{Nets}
use Rattle.qz_verilog.specs.Simulation.{row_of}
use Rattle.qz_system.specs.declared.parts.Cell.{Cell}
use Rattle.qz_system.specs.declared.parts.SystemParts.{SystemParts}
use Rattle.qz_system.specs.declared.valuation.Valuation.{Valuation}
use Rattle.qz_system.specs.Valuations.{Fits, is_permitted}
use Rattle.qz_wires.specs.declared.wires.Wires.{Wires}

abbrev pub cell_types : SystemParts → List Ty
cell_types parts = map (λ (cell : Cell). cell.ty) parts.cells

-- the marks of stores, each whether its value is a pending one
abbrev pub marks_of : List (Bool × ℕ) → List Value
marks_of stores = map (λ (store : Bool × ℕ). truth_of store.0) stores

abbrev pub bits_of_stores : List (Bool × ℕ) → List ℕ
bits_of_stores stores = map (λ (store : Bool × ℕ). store.1) stores

-- what the registers hold at a valuation: whether it is started, for each place whether control rests there, for each
-- cell whether its value is pending, and for each cell its value
abbrev pub registers_at : SystemParts → Valuation → List Value
registers_at parts v =
    truth_of v.started ∷ (map truth_of v.places.items ++ (marks_of v.stores.items ++ row_of (cell_types parts) (bits_of_stores v.stores.items)))

-- the row of inputs of a valuation
abbrev pub inputs_at : SystemParts → Valuation → List Value
inputs_at parts v = row_of (port_types parts.inputs) v.inputs.items

-- what the registers hold before the start: no control, and each variable's default without mark
abbrev pub initial_registers : SystemParts → List Value
initial_registers parts =
    replicate (1 + length parts.places + length parts.cells) (truth_of false) ++ map (λ (cell : Cell). default_of cell.ty) parts.cells

-- the numbers of a place's register, and of those of a cell
abbrev pub place_register : ℕ → ℕ
place_register place = 1 + place

abbrev pub mark_register : SystemParts → ℕ → ℕ
mark_register parts cell = 1 + length parts.places + cell

abbrev pub value_register : SystemParts → ℕ → ℕ
value_register parts cell = 1 + length parts.places + length parts.cells + cell

-- nets of which registers and inputs hold a permitted valuation
pub record Holds (parts : SystemParts) (v : Valuation) (nets : Nets) : Type 0 where
  pub fits : Fits parts v
  pub permitted : is_permitted parts v ≡ true
  pub registers : nets.registers ≡ registers_at parts v
  pub inputs : nets.inputs ≡ inputs_at parts v

-- wires over a system's inputs and registers
pub record AreOver (parts : SystemParts) (wires : Wires) : Type 0 where
  pub inputs : wires.inputs ≡ parts.inputs
  pub regs : wires.regs ≡ initial_registers parts
