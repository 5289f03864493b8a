-- What a program comes to over rows of inputs: the outputs of its run, or the first step that isn't taken.
use Rattle.std.specs.Prelude.{ℕ, ◌≡◌, ◌+◌, Bool, true, false, List, [], ◌∷◌, ◌++◌, map, length, codes, string_bytes, slice_get, Some, Result, Ok, Err}
use Rattle.qz_values.specs.declared.Value.{Value}
use Rattle.qz_values.specs.Values.{bits_of}
use Rattle.qz_syntax.specs.declared.modules.Whole.{Whole}
use Rattle.qz_syntax.specs.declared.refusals.Doubt.{Doubt}
use Rattle.qz_meaning.specs.Instances.{Instance}
use Rattle.qz_meaning.specs.Programs.{Program, program_of}
use Rattle.qz_meaning.specs.Configurations.{Configuration, initial}
use Rattle.qz_meaning.specs.Runs.{IsOnlyRun}
use Rattle.qz_meaning.specs.RunLaws.{IsDefiniteFrom}
use Rattle.qz_trace.specs.declared.traces.Trace.{Trace}
use Rattle.qz_trace.specs.Rows.{IsWhole, rows_in}
use Rattle.qz_interp.specs.declared.doubts.Doubted.{Doubted}
use Rattle.qz_interp.specs.InstanceTexts.{instance_text}
use Rattle.qz_interp.specs.OnlySteps.{IsNotDefinite}
use Rattle.qz_run.specs.declared.stops.RunStop.{RunStop}
use Rattle.qz_run.specs.declared.stops.RunStop.TheVariants as stop
use Rattle.qz_run.specs.Inputs.{input_rows}

-- A run over rows of inputs in which each step is definite. There is no other run over them.
pub record IsDefiniteRun (p : Program) (rows outs : List (List Value)) : Type 0 where
  pub definite : IsDefiniteFrom p (initial p) rows
  pub only : IsOnlyRun p rows outs

-- where a run that passes these configurations has come to
abbrev pub last_of : Configuration → List Configuration → Configuration
last_of c [] = c
last_of c (next ∷ nexts) = last_of next nexts

-- how an instance is named in which there is doubt: by its text, behind `next ` where it is its delayed value's
abbrev pub doubt_text : Whole → Instance → Bool → List ℕ
doubt_text w i false = instance_text w i
doubt_text w i true = codes "next " ++ instance_text w i

-- The first step, counted from 1, of which the least environment isn't definite, and the first doubt in it: all
-- steps before it are those of a definite run.
pub record IsFirstIndefinite (w : Whole) (rows : List (List Value)) (step : ℕ) (name : List ℕ) (why : Doubt) : Type 0 where
  pub before : List (List Value)
  pub row : List Value
  pub after : List (List Value)
  pub rows_are : rows ≡ before ++ (row ∷ after)
  pub number : step ≡ length before + 1
  pub outs : List (List Value)
  pub run : IsDefiniteRun (program_of w.module) before outs
  pub doubted : Doubted
  pub stands : IsNotDefinite (program_of w.module) (last_of (initial (program_of w.module)) run.only.passed) row doubted
  pub instance : Instance
  pub is_instance : slice_get (program_of w.module).instances doubted.number ≡ Some instance
  pub named : name ≡ doubt_text w instance doubted.delayed
  pub is_why : why ≡ doubted.doubt

-- the rows of outputs of a definite run, as numbers
pub record AreOutputs (p : Program) (rows : List (List Value)) (numbers : List (List ℕ)) : Type 0 where
  pub outs : List (List Value)
  pub run : IsDefiniteRun p rows outs
  pub are : numbers ≡ map (map bits_of) outs

-- the trace of the outputs
pub record IsOutputTrace (p : Program) (rows : List (List Value)) (outs : Trace) : Type 0 where
  pub width : outs.width ≡ length p.outputs
  pub whole : IsWhole outs
  pub outputs : AreOutputs p rows (rows_in outs)

-- what a program comes to over a trace of its inputs
abbrev pub IsRunOf : Whole → Trace → Result Trace RunStop → Type 0
IsRunOf w inputs (Ok outs) = IsOutputTrace (program_of w.module) (input_rows (program_of w.module) (rows_in inputs)) outs
IsRunOf w inputs (Err (stop.NotDefinite step name doubt)) =
    IsFirstIndefinite w (input_rows (program_of w.module) (rows_in inputs)) step (string_bytes name) doubt
IsRunOf w inputs (Err stop.Memory) = Unit {0}
