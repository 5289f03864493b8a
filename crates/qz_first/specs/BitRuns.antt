-- A statement's bits as a machine that runs by itself.
use Rattle.std.specs.Prelude.{ℕ, Bool, true, List, map, if◌then◌else◌}
use Rattle.std.specs.List.{range_with_len}
use Rattle.qz_first.specs.Mirror.{Bits, Control, Mirror, is_driven}

-- whether it is started, and where control rests
pub record BitState : Type 0 where
  pub started : Bool
  pub control : Control

-- the outputs that a step drives: a start's, and a resume's once it is started
abbrev pub driven_bits : Mirror → BitState → Bits
driven_bits mirror state = if state.started then mirror.resume state.control true else mirror.start true

-- the places where control rests after the step
abbrev pub moved_bits : Mirror → BitState → Bits
moved_bits mirror state = if state.started then mirror.move state.control else mirror.enter true

-- the step's outputs, of which there are so many, in order
abbrev pub bit_row : ℕ → Mirror → BitState → List Bool
bit_row outputs mirror state = map (λ output. is_driven (driven_bits mirror state) output) (range_with_len 0 outputs)

abbrev pub next_state : Mirror → BitState → BitState
next_state mirror state = record { started = true; control = λ place. is_driven (moved_bits mirror state) place }
