-- When a Verilog module is the circuit of a module: each of its clocks does what the mirror says.
use Rattle.std.specs.Prelude.{ℕ, ◌≡◌, ◌<◌, Bool, true, not, List, [], ◌∷◌, ◌++◌, map, length, replicate}
use Rattle.std.specs.List.{range_with_len}
use Rattle.qz_values.specs.Values.{no}
use Rattle.qz_syntax.specs.declared.modules.Module.{Module}
use Rattle.qz_verilog.specs.declared.modules.VModule.{VModule}
use Rattle.qz_first.specs.FirstLanguage.{IsFirst}
use Rattle.qz_first.specs.Does.{port_of}
use Rattle.qz_first.specs.Mirror.{Bits, Control, mirror_of, is_driven}
use Rattle.qz_first.specs.BitNets.{IsBitClock, IsBitModule}

-- a module is started in the step in which its last register is not set
abbrev pub starts : Module → Control → Bool
starts m registers = not (registers (length m.labels))

-- the outputs that a step drives: those of a start, and those of a resume
abbrev pub step_writes : Module → Control → Bits
step_writes m registers = (mirror_of m.body).start (starts m registers) ++ (mirror_of m.body).resume registers true

-- the places where control rests after a step
abbrev pub step_rests : Module → Control → Bits
step_rests m registers = (mirror_of m.body).enter (starts m registers) ++ (mirror_of m.body).move registers

-- one step of the mirror: each output, each place, and that it was started
pub record IsStep (m : Module) (registers : Control) (outs : List Bool) (next : Control) : Type 0 where
  pub outs_are : outs ≡ map (is_driven (step_writes m registers)) (range_with_len 0 (length m.formals))
  pub places : (place : ℕ) → place < length m.labels → next place ≡ is_driven (step_rests m registers) place
  pub started : next (length m.labels) ≡ true

-- Its name and outputs are the module's, it begins with no control, each of its clocks is a step, and it can
-- be written where the module is one of the first language.
pub record Implements (v : VModule) (m : Module) : Type 0 where
  pub name : v.name ≡ m.name
  pub outputs : v.outputs ≡ map port_of m.formals
  -- no place has control, and nothing is started
  pub begins : v.regs ≡ replicate (length m.labels) no ++ no ∷ []
  pub clock : (registers : Control) (outs : List Bool) (next : Control) → IsBitClock v registers outs next → IsStep m registers outs next
  pub valid : IsFirst m → IsBitModule v
