-- What is put: the text of a Verilog module that does the program of the file's bytes.
use Rattle.std.specs.Prelude.{ℕ, List}
use Rattle.qz_syntax.specs.declared.modules.Module.{Module}
use Rattle.qz_meaning.specs.Programs.{program_of}
use Rattle.qz_meaning.specs.RunLaws.{IsAlwaysDefinite}
use Rattle.qz_verilog.specs.declared.modules.VModule.{VModule}
use Rattle.qz_vtext.specs.Text.{IsTextOf}
use Rattle.qz_first.specs.Built.{IsModuleOf}
use Rattle.qz_first.specs.Does.{DoesProgram}

-- the text of a valid Verilog module that does the program, which is definite at every permitted valuation
pub record IsTextOfProgram (program : Module) (text : List ℕ) : Type 0 where
  pub definite : IsAlwaysDefinite (program_of program)
  pub circuit : VModule
  pub does : DoesProgram circuit program
  pub written : IsTextOf circuit text

-- the text of a circuit that does the program of which these bytes are the source
pub record HasCircuit (name bytes text : List ℕ) : Type 0 where
  pub program : Module
  pub is : IsModuleOf name bytes program
  pub made : IsTextOfProgram program text
