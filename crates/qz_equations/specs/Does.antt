-- When a module does a system: it begins with the initial valuation, and each clock is a step of the system.
use Rattle.std.specs.Prelude.{ℕ, ◌≡◌, true, false, List, map, length, slice_index_or}
use Rattle.std.specs.Option.{option_map_or}
use Rattle.std.specs.List.{All, range_with_len}
use Rattle.qz_values.specs.declared.Value.{Value}
use Rattle.qz_values.specs.declared.Know.{Know}
use Rattle.qz_values.specs.declared.Know.TheVariants.{Unknown}
use Rattle.qz_syntax.specs.declared.places.Later.{Later}
use Rattle.qz_verilog.specs.declared.modules.VModule.{VModule}
use Rattle.qz_verilog.specs.Runs.{IsClock}
use Rattle.qz_verilog.specs.Simulation.{value_in}
use Rattle.qz_system.specs.declared.parts.SystemParts.{SystemParts}
use Rattle.qz_system.specs.declared.valuation.Valuation.{Valuation}
use Rattle.qz_system.specs.Valuations.{Fits, is_initial, is_permitted}
use Rattle.qz_system.specs.Rounds.{IsRound}
use Rattle.qz_system.specs.Nexts.{IsNthRound, IsNext, is_known, is_told, instance_of}
use Rattle.qz_equations.specs.Registers.{registers_at, inputs_at}

-- after so many rounds each value is known, and each delayed value known or absent, and one round more changes nothing
pub record IsDefiniteAfter (parts : SystemParts) (count : ℕ) (v : Valuation) (knows : List Know) (delayed : List Later) : Type 0 where
  pub is_nth : IsNthRound parts v count knows delayed
  pub stays : IsRound parts v knows knows delayed
  pub known : All (λ k. is_known k ≡ true) knows
  pub told : All (λ l. is_told l ≡ true) delayed

-- what is known of an output: of its instance
abbrev pub output_known : SystemParts → List Know → ℕ → Know
output_known parts knows output = option_map_or (λ n. slice_index_or knows n Unknown) (instance_of output 0 parts.instances) Unknown

-- the values of the outputs
abbrev pub outputs_at : SystemParts → List Know → List Value
outputs_at parts knows = map (λ output. value_in (output_known parts knows output)) (range_with_len 0 (length parts.outputs))

-- a step of the system at a valuation that is permitted and fits
pub record IsStep (parts : SystemParts) (count : ℕ) (v : Valuation) (knows : List Know) (delayed : List Later) : Type 0 where
  pub fits : Fits parts v
  pub permitted : is_permitted parts v ≡ true
  pub definite : IsDefiniteAfter parts count v knows delayed

-- a clock from the registers of a valuation, with its inputs
abbrev pub ClocksAt : SystemParts → VModule → Valuation → List Value → List Value → Type 0
ClocksAt parts m v outs next = IsClock m (registers_at parts v) (inputs_at parts v) outs next

-- each clock at a step gives the step's outputs, and leaves the registers of the valuation that comes next
pub record DoesStep (parts : SystemParts) (m : VModule) (v : Valuation) (knows : List Know) (delayed : List Later) : Type 0 where
  pub outs : (outs next : List Value) → ClocksAt parts m v outs next → outs ≡ outputs_at parts knows
  pub nexts : (outs next : List Value) → ClocksAt parts m v outs next → (w : Valuation) → IsNext parts v knows delayed w → next ≡ registers_at parts w

pub record DoesSystem (parts : SystemParts) (count : ℕ) (m : VModule) : Type 0 where
  pub name : m.name ≡ parts.name
  pub inputs : m.inputs ≡ parts.inputs
  pub outputs : m.outputs ≡ parts.outputs
  pub begins : (v : Valuation) → Fits parts v → v.started ≡ false → is_initial v ≡ true → m.regs ≡ registers_at parts v
  pub steps : (v : Valuation) (knows : List Know) (delayed : List Later) → IsStep parts count v knows delayed → DoesStep parts m v knows delayed
