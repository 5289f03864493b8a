-- What a module that is simulated holds, and what it is given at a clock.
use Rattle.std.specs.Prelude.{◌≡◌, ℕ, List, [], ◌∷◌, length, Some}
use Rattle.qz_values.specs.declared.Ty.{Ty}
use Rattle.qz_values.specs.declared.Value.{Value}
use Rattle.qz_values.specs.declared.Know.{Know}
use Rattle.qz_values.specs.declared.Know.TheVariants.{Known}
use Rattle.qz_values.specs.Values.{value_of, no}
use Rattle.qz_verilog.specs.declared.nets.Rhs.{Rhs}
use Rattle.qz_verilog.specs.declared.modules.VModule.{VModule}
use Rattle.qz_verilog.specs.Types.{NetTypes, right_side_type}
use Rattle.qz_verilog.specs.Validity.{register_types, IsValid}
use Rattle.qz_verilog.specs.Meaning.{Nets}
use Rattle.qz_verilog.specs.Runs.{AreOf}

-- numbers as values of these types, one for each
abbrev pub row_of : List Ty → List ℕ → List Value
row_of [] numbers = []
row_of (t ∷ ts) [] = []
row_of (t ∷ ts) (n ∷ numbers) = value_of t n ∷ row_of ts numbers

-- a module with what its registers hold
pub record SimState : Type 0 where
  pub circuit : VModule
  pub registers : List Value

-- the module is valid, its registers hold values of their types, and there is room for the values of a clock
pub record IsReady (m : VModule) (inputs registers wires nexts : List Value) : Type 0 where
  pub valid : IsValid m
  pub typed : AreOf (register_types m.regs) registers
  pub input_room : length inputs ≡ length m.inputs
  pub wire_room : length wires ≡ length m.wires
  pub next_room : length nexts ≡ length m.nexts

-- nets of these types
pub record HaveTypes (types : NetTypes) (nets : Nets) : Type 0 where
  pub inputs : AreOf types.inputs nets.inputs
  pub registers : AreOf types.registers nets.registers
  pub wires : AreOf types.wires nets.wires

-- a right side that has a type where nets are declared of whose types the values are
pub record CanBeRead (nets : Nets) (right : Rhs) : Type 0 where
  pub types : NetTypes
  pub typed : HaveTypes types nets
  pub ty : Ty
  pub is : right_side_type types right ≡ Some ty

-- the value that is known
abbrev pub value_in : Know → Value
value_in (Known v) = v
value_in k = no
