-- The mode `run`: the row of its name and its file. The source in the file is read and typed, and its program takes
-- one macro step for each row of the inputs that are held for it.
use Rattle.std.specs.Prelude.{ℕ, ◌≡◌, ◌⊎◌, List, [], ◌∷◌, Option, Some, None, map, encode_utf8_all}
use Rattle.qz_values.specs.declared.Ty.{Ty}
use Rattle.qz_values.specs.declared.Value.{Value}
use Rattle.qz_values.specs.Values.{bits_of}
use Rattle.qz_syntax.specs.declared.modules.Whole.{Whole}
use Rattle.qz_syntax.specs.declared.refusals.Doubt.{Doubt}
use Rattle.qz_meaning.specs.Programs.{program_of}
use Rattle.qz_trace.specs.Rows.{trace_text}
use Rattle.qz_run.specs.Inputs.{input_types, input_rows}
use Rattle.qz_run.specs.Runs.{IsDefiniteRun, IsFirstIndefinite}
use Rattle.qz_program.specs.declared.causes.NoProgram.{NoProgram}
use Rattle.qz_program.specs.declared.causes.NoProgram.TheVariants as against
use Rattle.qz_program.specs.Programs.{IsProgramOf}
use Rattle.qz_program.specs.Causes.{StandsAgainst}
use Rattle.qz_diag.specs.declared.words.ByteFault.TheVariants as byte
use Rattle.qz_diag.specs.Causes.{Cause, NotBuilt, AtByte, FileSize, Missing, InstantLoop, Size, NotDefinite}
use Rattle.qz_diag.specs.Causes.{Absent as CauseAbsent}
use Rattle.qz_diag.specs.Causes.{TooLong as CauseTooLong}
use Rattle.qz_driver.specs.Rows.{Row, Content, Bytes}
use Rattle.qz_driver.specs.Rows.{Absent as ContentAbsent}
use Rattle.qz_driver.specs.Rows.{TooLong as ContentTooLong}
use Rattle.qz_driver.specs.SimRow.{inputs_name, outputs_name, largest_trace, IsOfInputs, AreInputs}

-- bytes of a source
abbrev pub largest_source : ℕ
largest_source = 1048576

-- the cause that is told where a source makes no program; want of memory is none
abbrev pub told : List ℕ → List ℕ → NoProgram → Option Cause
told name file (against.NotUtf8 offset) = Some (AtByte file byte.NotUtf8 offset)
told name file (against.Lex offset) = Some (AtByte file byte.Lex offset)
told name file (against.Parse offset) = Some (AtByte file byte.Parse offset)
told name file (against.Deep offset) = Some (AtByte file byte.Deep offset)
told name file (against.Types offset kind) = Some (AtByte file (byte.Types kind) offset)
told name file against.Prototypes = Some (NotBuilt file)
told name file (against.FileSize units) = Some (FileSize file units)
told name file against.Missing = Some (Missing name)
told name file (against.InstantLoop who number) = Some (InstantLoop number (encode_utf8_all who))
told name file (against.Size units) = Some (Size units)
told name file against.Memory = None

-- a cause that stands against the bytes of the source
pub record IsOfSource (name file bytes : List ℕ) (cause : Cause) : Type 0 where
  pub why : NoProgram
  pub stands : StandsAgainst name bytes why
  pub is : told name file why ≡ Some cause

-- a cause that stands against what is found under the file's name
abbrev pub IsOfSourceFile : List ℕ → List ℕ → Content → Cause → Type 0
IsOfSourceFile name file ContentAbsent cause = cause ≡ CauseAbsent file
IsOfSourceFile name file ContentTooLong cause = cause ≡ CauseTooLong file
IsOfSourceFile name file (Bytes bytes) cause = IsOfSource name file bytes cause

-- what is found is a source that makes this program of the name
pub record IsProgramIn (name : List ℕ) (content : Content) (w : Whole) : Type 0 where
  pub bytes : List ℕ
  pub there : content ≡ Bytes bytes
  pub is : IsProgramOf name bytes w

-- the types of a program's inputs
abbrev pub types_in : Whole → List Ty
types_in w = input_types (program_of w.module)

-- the first step that isn't definite in the program's run over rows of inputs
pub record IsDoubtOver (w : Whole) (rows : List (List ℕ)) (cause : Cause) : Type 0 where
  pub step : ℕ
  pub who : List ℕ
  pub doubt : Doubt
  pub first : IsFirstIndefinite w (input_rows (program_of w.module) rows) step who doubt
  pub is : cause ≡ NotDefinite step who doubt

-- the same over what is found under the name of the inputs
pub record IsOfSteps (w : Whole) (inputs : Content) (cause : Cause) : Type 0 where
  pub rows : List (List ℕ)
  pub read : AreInputs (types_in w) inputs rows
  pub stands : IsDoubtOver w rows cause

-- a cause that stands against a program with these inputs, whose name is given too
abbrev pub IsOfRun : List ℕ → Whole → Content → Cause → Type 0
IsOfRun input w inputs cause = IsOfInputs input (types_in w) inputs cause ⊎ IsOfSteps w inputs cause

-- a cause that stands against the inputs of the program in the file
pub record IsOfProgramInputs (name : List ℕ) (source inputs : Content) (cause : Cause) : Type 0 where
  pub whole : Whole
  pub is : IsProgramIn name source whole
  pub stands : IsOfRun (inputs_name name) whole inputs cause

abbrev pub run_against : List ℕ → List ℕ → List Content → Cause → Type 0
run_against name file [] cause = ⊥
run_against name file (source ∷ []) cause = IsOfSourceFile name file source cause
run_against name file (source ∷ inputs ∷ []) cause = IsOfProgramInputs name source inputs cause
run_against name file (source ∷ inputs ∷ more ∷ others) cause = ⊥

-- the text of the outputs of the program's only run over rows of inputs, a line for each macro step
pub record IsRunText (w : Whole) (rows : List (List ℕ)) (text : List ℕ) : Type 0 where
  pub outs : List (List Value)
  pub run : IsDefiniteRun (program_of w.module) (input_rows (program_of w.module) rows) outs
  pub written : text ≡ trace_text (map (map bits_of) outs)

-- what is found is a trace of the program's inputs, and this is the text of its outputs
pub record IsRunOver (w : Whole) (inputs : Content) (text : List ℕ) : Type 0 where
  pub rows : List (List ℕ)
  pub read : AreInputs (types_in w) inputs rows
  pub outputs : IsRunText w rows text

pub record RunMakes (name : List ℕ) (contents : List Content) (text : List ℕ) : Type 0 where
  pub source : Content
  pub inputs : Content
  pub there : contents ≡ source ∷ inputs ∷ []
  pub whole : Whole
  pub is : IsProgramIn name source whole
  pub run : IsRunOver whole inputs text

abbrev pub run_row : List ℕ → List ℕ → Row
run_row name file = record {
  reads = record { name = file; limit = largest_source } ∷ record { name = inputs_name name; limit = largest_trace } ∷ [];
  against = run_against name file;
  puts = outputs_name name;
  makes = RunMakes name;
  says = None;
}
