-- Parts of a `run`: the program that is found, and what it comes to with its inputs.
use Rattle.std.specs.Prelude.{ℕ, ◌≡◌, ◌<◌, ◌^◌, List, [], length, Result, Option, Ok, Err, Some, string_bytes}
use Rattle.std.specs.List.{AllByRecursion}
use Rattle.qz_values.specs.declared.Ty.{Ty}
use Rattle.qz_syntax.specs.declared.modules.Module.{Module}
use Rattle.qz_syntax.specs.declared.modules.Whole.{Whole}
use Rattle.qz_syntax.specs.WellFormed.{IsWellFormed}
use Rattle.qz_meaning.specs.Programs.{program_of}
use Rattle.qz_run.specs.Inputs.{input_types}
use Rattle.qz_trace.specs.declared.traces.Trace.{Trace}
use Rattle.qz_trace.specs.Rows.{IsRow, IsWhole, rows_in}
use Rattle.qz_program.specs.declared.causes.NoProgram.{NoProgram}
use Rattle.qz_diag.specs.Causes.{Cause}
use Rattle.qz_io.specs.Held.{Held}
use Rattle.qz_driver.specs.declared.run_program.Inputs.{Inputs}
use Rattle.qz_driver.specs.declared.work.Output.{Output}
use Rattle.qz_driver.specs.declared.work.Stop.{Stop}
use Rattle.qz_driver.specs.declared.work.Stop.TheVariants as stop
use Rattle.qz_driver.specs.Rows.{Content}
use Rattle.qz_driver.specs.Answers.{FilesSeen}
use Rattle.qz_driver.specs.SimRow.{inputs_name, outputs_name, largest_trace, AreInputs}
use Rattle.qz_driver.specs.RunRow.{told, IsOfSource, IsOfSourceFile, IsProgramIn, IsOfRun, IsRunOver}
use Rattle.qz_driver.specs.Work.{content_of, IsFound, IsMissed, StopsOver}

-- a cause is how this is told
abbrev pub IsToldFor : List ℕ → List ℕ → NoProgram → Cause → Type 0
IsToldFor name file why cause = told name file why ≡ Some cause

-- what is found is a source that makes this program alone, against which nothing stands
pub record IsOnlyProgramIn (name file : List ℕ) (content : Content) (w : Whole) : Type 0 where
  pub is : IsProgramIn name content w
  pub only : (other : Whole) → IsProgramIn name content other → other ≡ w
  pub clear : (cause : Cause) → IsOfSourceFile name file content cause → ⊥
  pub well_formed : IsWellFormed [] w.module

-- what is found is the trace of these rows of values of the types
pub record AreFound (types : List Ty) (content : Content) (rows : Trace) : Type 0 where
  pub read : AreInputs types content (rows_in rows)
  pub width : rows.width ≡ length types
  pub whole : IsWhole rows
  pub each : AllByRecursion (IsRow types) (rows_in rows)
  pub short : rows.steps < 2 ^ 32

-- the types of a module's inputs, and the trace of their rows that is found
pub record AreGiven (w : Module) (content : Content) (types : List Ty) (rows : Trace) : Type 0 where
  pub types_are : types ≡ input_types (program_of w)
  pub found : AreFound types content rows

-- what was found under the name of a module's inputs
pub record IsInputsFile (name : List ℕ) (held : Option Held) (inputs : Inputs) : Type 0 where
  pub named : string_bytes inputs.name ≡ inputs_name name
  pub found : IsFound (inputs_name name) largest_trace held (content_of inputs.got)

-- the file of the outputs
pub record IsRunOutput (name : List ℕ) (w : Whole) (content : Content) (output : Output) : Type 0 where
  pub run : IsRunOver w content output.bytes.items
  pub named : string_bytes output.name ≡ outputs_name name

-- the file of the outputs was made
pub record MakesRun (name : List ℕ) (w : Whole) (old new : FilesSeen) (output : Output) : Type 0 where
  pub inputs : Content
  pub found : IsFound (inputs_name name) largest_trace old.held inputs
  pub run : IsRunOver w inputs output.bytes.items
  pub named : string_bytes output.name ≡ outputs_name name
  pub stays : new ≡ old

-- a cause stands against the program with its inputs
pub record RefusesRun (name : List ℕ) (w : Whole) (old new : FilesSeen) (stopped : Stop) : Type 0 where
  pub inputs : Content
  pub found : IsFound (inputs_name name) largest_trace old.held inputs
  pub stands : StopsOver (IsOfRun (inputs_name name) w inputs) stopped
  pub stays : new ≡ old

abbrev pub RunStops : List ℕ → Whole → FilesSeen → FilesSeen → Stop → Type 0
RunStops name w old new (stop.Refused refusal) = RefusesRun name w old new (stop.Refused refusal)
RunStops name w old new stop.Unread = IsMissed (inputs_name name) old new
RunStops name w old new stop.Memory = new ≡ old

-- what a program with this name comes to, once it was found
abbrev pub IsRunning : List ℕ → Whole → FilesSeen → FilesSeen → Result Output Stop → Type 0
IsRunning name w old new (Ok output) = MakesRun name w old new output
IsRunning name w old new (Err stopped) = RunStops name w old new stopped
