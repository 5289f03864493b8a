-- When a Verilog module does a program.
use Rattle.std.specs.Prelude.{◌≡◌, List, map, filter}
use Rattle.std.specs.List.{AllByRecursion}
use Rattle.qz_values.specs.declared.Value.{Value}
use Rattle.qz_syntax.specs.declared.declarations.Dir.{Dir}
use Rattle.qz_syntax.specs.declared.declarations.Dir.TheVariants as dir
use Rattle.qz_syntax.specs.declared.declarations.Formal.{Formal}
use Rattle.qz_syntax.specs.declared.declarations.Port.{Port}
use Rattle.qz_syntax.specs.declared.modules.Module.{Module}
use Rattle.qz_meaning.specs.Programs.{is_same_direction, program_of}
use Rattle.qz_meaning.specs.Configurations.{IsRow}
use Rattle.qz_meaning.specs.Runs.{IsOnlyRun}
use Rattle.qz_verilog.specs.declared.modules.VModule.{VModule}
use Rattle.qz_verilog.specs.Runs.{IsRun}

-- one formal as a port
abbrev pub port_of : Formal → Port
port_of formal = record { name = formal.name; ty = formal.ty }

-- the formals of one direction as ports, in their order
abbrev pub ports_of : Dir → List Formal → List Port
ports_of d formals = map port_of (filter (λ (formal : Formal). is_same_direction formal.dir d) formals)

-- Its name, its inputs and its outputs are the module's in order, name and type. Over every list of rows of
-- inputs it has a run, and the program has exactly one, whose outputs are those of each run of the Verilog
-- module, row by row.
pub record DoesProgram (v : VModule) (m : Module) : Type 0 where
  pub name : v.name ≡ m.name
  pub inputs : v.inputs ≡ ports_of dir.In m.formals
  pub outputs : v.outputs ≡ ports_of dir.Out m.formals
  pub runs : (rows : List (List Value)) → AllByRecursion (IsRow (program_of m)) rows → (outs : List (List Value)) × IsRun v rows outs
  pub same : (rows : List (List Value)) → AllByRecursion (IsRow (program_of m)) rows → (outs : List (List Value))
      → IsRun v rows outs → IsOnlyRun (program_of m) rows outs
