-- What a module of a system is made of.
use Rattle.std.specs.Prelude.{◌≡◌, List, map}
use Rattle.qz_values.specs.declared.Ty.{Ty}
use Rattle.qz_verilog.specs.declared.nets.Ref.{Ref}
use Rattle.qz_verilog.specs.declared.nets.Rhs.{Rhs}
use Rattle.qz_verilog.specs.declared.modules.VModule.{VModule}
use Rattle.qz_system.specs.declared.parts.SystemParts.{SystemParts}
use Rattle.qz_wires.specs.declared.rails.Rail.{Rail}
use Rattle.qz_equations.specs.Registers.{initial_registers}

abbrev pub rail_values : List Rail → List Ref
rail_values rails = map (λ (rail : Rail). rail.value) rails

-- the module has the system's ports and registers, and these wires
pub record IsModuleOf (parts : SystemParts) (wires : List (Ty × Rhs)) (outs nexts : List Ref) (m : VModule) : Type 0 where
  pub name : m.name ≡ parts.name
  pub inputs : m.inputs ≡ parts.inputs
  pub outputs : m.outputs ≡ parts.outputs
  pub regs : m.regs ≡ initial_registers parts
  pub wires_are : m.wires ≡ wires
  pub outs_are : m.outs ≡ outs
  pub nexts_are : m.nexts ≡ nexts
