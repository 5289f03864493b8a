-- What a `run` comes to, from what was found under the names of its files.
use Rattle.std.proofs.Common.{◌≡◌, ℕ, List, [], ◌∷◌, Result, Ok, Err, IfOk, Vec, inl, inr, refl, sym, ap, subst, ◌∙◌, string_bytes}
use Rattle.std.specs.Prelude.{◌⊎◌, IfErr, MatchResult, length, map}
use Rattle.std.specs.declared.alloc.Global.{Global}
use Rattle.std.specs.List.{AllByRecursion}
use Rattle.qz_values.specs.declared.Ty.{Ty}
use Rattle.qz_values.specs.Types.{IsType}
use Rattle.qz_values.specs.Values.{bits_of}
use Rattle.qz_syntax.specs.declared.modules.Module.{Module}
use Rattle.qz_syntax.specs.declared.modules.Whole.{Whole}
use Rattle.qz_syntax.specs.WellFormed.{IsWellFormed}
use Rattle.qz_syntax.specs.declared.refusals.Doubt.{Doubt}
use Rattle.qz_meaning.specs.Programs.{program_of}
use Rattle.qz_trace.specs.declared.traces.Trace.{Trace}
use Rattle.qz_trace.specs.Rows.{rows_in, trace_text}
use Rattle.qz_run.specs.Inputs.{input_types, input_rows, IsInputTrace}
use Rattle.qz_run.specs.Runs.{IsOutputTrace, IsFirstIndefinite}
use Rattle.qz_run.proofs.FormalLemmas.{inputs_typed}
use Rattle.qz_run.proofs.RunLemmas.{never_indefinite}
use Rattle.qz_program.specs.declared.causes.NoProgram.{NoProgram}
use Rattle.qz_program.specs.declared.causes.NoProgram.TheVariants.{Memory}
use Rattle.qz_program.specs.Programs.{IsProgramOf}
use Rattle.qz_program.specs.Causes.{StandsAgainst}
use Rattle.qz_diag.specs.Causes.{Cause, NotDefinite, cause_of}
use Rattle.qz_driver.specs.declared.work.Output.{Output}
use Rattle.qz_driver.specs.declared.work.Stop.{Stop}
use Rattle.qz_driver.specs.declared.work.Stop.TheVariants as stop
use Rattle.qz_driver.specs.Rows.{Content, Bytes, Read}
use Rattle.qz_driver.specs.Answers.{FilesSeen}
use Rattle.qz_driver.specs.SimRow.{largest_trace, inputs_name, outputs_name, IsOfInputs, AreInputs}
use Rattle.qz_driver.specs.RunRow.{largest_source, told, types_in, IsOfSource, IsOfSourceFile, IsProgramIn, IsDoubtOver, IsOfSteps, IsOfRun, IsOfProgramInputs, IsRunText, IsRunOver, run_against, RunMakes, run_row}
use Rattle.qz_driver.specs.declared.run_program.Inputs.{Inputs}
use Rattle.qz_driver.specs.Work.{content_of, IsFound, IsUngot, StopsOver, Stops, IsWork}
use Rattle.qz_driver.specs.Running.{IsInputsFile, IsRunOutput, IsOnlyProgramIn, AreFound, AreGiven, RunStops, IsRunning, IsToldFor}
use Rattle.qz_driver.proofs.InputLemmas.{same_bytes, same_rows, inputs_clear}
use Rattle.qz_driver.proofs.RowLemmas.{first_ungot, first_stops, second_ungot, second_stops, both_made}

-- a cause of one kind is one of another
pub stops_more : (P Q : Cause → Type 0) (stopped : Stop) → ((cause : Cause) → P cause → Q cause) → StopsOver P stopped → StopsOver Q stopped
stops_more P Q (stop.Refused refusal) more stands = more (cause_of refusal) stands
stops_more P Q stop.Unread more stands = absurd stands
stops_more P Q stop.Memory more stands = tt

module _ (name file bytes : List ℕ) where
  -- the only program that the bytes make
  pub only_program : (w : Whole) → IsProgramOf name bytes w → ((other : Whole) → IsProgramOf name bytes other → other ≡ w)
      → ((why : NoProgram) → StandsAgainst name bytes why → why ≡ Memory) → IsWellFormed [] w.module → IsOnlyProgramIn name file (Bytes bytes) w
  only_program w is only clear well_formed = record {
    is = record { bytes = bytes; there = refl; is = is };
    only = λ other in_bytes. only other (subst (λ (b : List ℕ). IsProgramOf name b other) (sym (same_bytes bytes in_bytes.bytes in_bytes.there)) in_bytes.is);
    clear = λ cause stands. never cause stands;
    well_formed = well_formed;
  } where
    never : (cause : Cause) → IsOfSource name file bytes cause → ⊥
    never cause stands = cc (ap (told name file) (clear stands.why stands.stands), stands.is)

  -- how a cause against the bytes is told
  pub stops_told : (why : NoProgram) (stopped : Stop) → StandsAgainst name bytes why → StopsOver (IsToldFor name file why) stopped → StopsOver (IsOfSource name file bytes) stopped
  stops_told why stopped stands = stops_more (IsToldFor name file why) (IsOfSource name file bytes) stopped (λ cause is. record { why = why; stands = stands; is = is })

-- the types of the program's inputs are types
typed_inputs : (w : Whole) → IsWellFormed [] w.module → AllByRecursion IsType (types_in w)
typed_inputs w well = inputs_typed w.module (types_in w) well refl

-- no step isn't definite where the text of a definite run's outputs was made
steps_clear : (w : Whole) (inputs : Content) (rows : List (List ℕ)) (text : List ℕ) → IsWellFormed [] w.module → AreInputs (types_in w) inputs rows
    → IsRunText w rows text → (cause : Cause) → IsOfSteps w inputs cause → ⊥
steps_clear w inputs rows text well read run cause stands =
    let same : stands.rows ≡ rows = same_rows (types_in w) inputs rows stands.rows (typed_inputs w well) read stands.read in
    let at : IsDoubtOver w rows cause = subst (λ (r : List (List ℕ)). IsDoubtOver w r cause) same stands.stands in
    never_indefinite w (input_rows (program_of w.module) rows) run.outs at.step at.who at.doubt run.run at.first

run_clear : (input : List ℕ) (w : Whole) (inputs : Content) (text : List ℕ) → IsWellFormed [] w.module → IsRunOver w inputs text
    → (cause : Cause) → IsOfRun input w inputs cause → ⊥
run_clear input w inputs text well run cause (inl stands) = inputs_clear input (types_in w) inputs run.rows (typed_inputs w well) run.read cause stands
run_clear input w inputs text well run cause (inr stands) = steps_clear w inputs run.rows text well run.read run.outputs cause stands

module _ (name file : List ℕ) where
  abbrev source : Read
  source = record { name = file; limit = largest_source }

  abbrev trace : Read
  trace = record { name = inputs_name name; limit = largest_trace }

  nothing_before : (cause : Cause) → run_against name file [] cause → ⊥
  nothing_before cause stands = stands

  both_clear : (content inputs : Content) (w : Whole) (text : List ℕ) → IsOnlyProgramIn name file content w → IsRunOver w inputs text
      → (cause : Cause) → IsOfProgramInputs name content inputs cause → ⊥
  both_clear content inputs w text is run cause stands =
      let same : stands.whole ≡ w = is.only stands.whole stands.is in
      run_clear (inputs_name name) w inputs text is.well_formed run cause
      (subst (λ (other : Whole). IsOfRun (inputs_name name) other inputs cause) same stands.stands)

  pub source_ungot : (old new : FilesSeen) (stopped : Stop) → IsUngot file old new stopped → Stops (run_row name file) old new stopped
  source_ungot = first_ungot source (trace ∷ []) (run_against name file) (outputs_name name) (RunMakes name) nothing_before

  pub source_stops : (old new : FilesSeen) (content : Content) (stopped : Stop) → IsFound file largest_source old.held content → new ≡ old
      → StopsOver (IsOfSourceFile name file content) stopped → Stops (run_row name file) old new stopped
  source_stops = first_stops source (trace ∷ []) (run_against name file) (outputs_name name) (RunMakes name) nothing_before

  -- what the program in the source comes to
  pub running : (old new : FilesSeen) (content : Content) (w : Whole) (work : Result Output Stop) → IsFound file largest_source old.held content
      → IsOnlyProgramIn name file content w → IsRunning name w old new work → IsWork (run_row name file) old new work
  running old new content w (Ok output) found is did = record {
    name = did.named;
    made = both_made source trace (run_against name file) (outputs_name name) (RunMakes name) nothing_before content is.clear
        old.held did.inputs output.bytes.items found did.found (both_clear content did.inputs w output.bytes.items is did.run)
        (record { source = content; inputs = did.inputs; there = refl; whole = w; is = is.is; run = did.run });
    stays = did.stays;
  }
  running old new content w (Err (stop.Refused refusal)) found is did =
      second_stops source trace (run_against name file) (outputs_name name) (RunMakes name) nothing_before content is.clear
      old new did.inputs (stop.Refused refusal) found did.found did.stays (record { whole = w; is = is.is; stands = did.stands })
  running old new content w (Err stop.Unread) found is did =
      second_ungot source trace (run_against name file) (outputs_name name) (RunMakes name) nothing_before content is.clear
      old new stop.Unread found did
  running old new content w (Err stop.Memory) found is did = did

-- the text of a definite run's outputs
pub run_told : (w : Whole) (rows : List (List ℕ)) (outs : Trace) (text : List ℕ) → IsOutputTrace (program_of w.module) (input_rows (program_of w.module) rows) outs
    → text ≡ trace_text (rows_in outs) → IsRunText w rows text
run_told w rows outs text is written = record { outs = is.outputs.outs; run = is.outputs.run; written = written ∙ ap trace_text is.outputs.are }

-- how the first step that isn't definite is told
pub doubt_over : (w : Whole) (rows : List (List ℕ)) (step : ℕ) (name : List ℕ) (why : Doubt)
    → IsFirstIndefinite w (input_rows (program_of w.module) rows) step name why → IsDoubtOver w rows (NotDefinite step name why)
doubt_over w rows step name why first = record { step = step; who = name; doubt = why; first = first; is = refl }

-- what the program comes to over the rows that are found
pub given_text : (w : Whole) (content : Content) (input : List ℕ) (types : List Ty) (rows : Trace) (r : Result (Vec ℕ Global) Stop) → AreGiven w.module content types rows
    → MatchResult r (λ text. IsRunText w (rows_in rows) text.items) (StopsOver (IsDoubtOver w (rows_in rows)))
    → MatchResult r (λ text. IsRunOver w content text.items) (StopsOver (IsOfRun input w content))
given_text w content input types rows (Ok text) given run =
    record { rows = rows_in rows; read = subst (λ (ts : List Ty). AreInputs ts content (rows_in rows)) given.types_are given.found.read; outputs = run }
given_text w content input types rows (Err stopped) given stands =
    let read : AreInputs (types_in w) content (rows_in rows) = subst (λ (ts : List Ty). AreInputs ts content (rows_in rows)) given.types_are given.found.read in
    stops_more (IsDoubtOver w (rows_in rows)) (IsOfRun input w content) stopped (λ cause is. inr (record { rows = rows_in rows; read = read; stands = is })) stands

-- the rows that are found are a trace of the program's inputs
pub given_rows : (m : Module) (content : Content) (types : List Ty) (rows : Trace) → AreGiven m content types rows → IsInputTrace (program_of m) rows
given_rows m content types rows given =
    let found : AreFound (input_types (program_of m)) content rows = subst (λ (ts : List Ty). AreFound ts content rows) given.types_are given.found in
    record { width = found.width; whole = found.whole; each = found.each; short = found.short }

-- no rows are found
pub given_not : (w : Whole) (content : Content) (input : List ℕ) (stopped : Stop) → StopsOver (IsOfInputs input (types_in w) content) stopped
    → StopsOver (IsOfRun input w content) stopped
given_not w content input stopped = stops_more (IsOfInputs input (types_in w) content) (IsOfRun input w content) stopped (λ cause is. inl is)

-- the file of the outputs, where it was made of the text
pub output_made : (name : List ℕ) (w : Whole) (content : Content) (input text : List ℕ) (work : Result Output Stop) → IsRunOver w content text
    → IfOk work (λ output. string_bytes output.name ≡ outputs_name name) → IfOk work (λ output. output.bytes.items ≡ text) → IfErr work (λ stopped. stopped ≡ stop.Memory)
    → MatchResult work (IsRunOutput name w content) (StopsOver (IsOfRun input w content))
output_made name w content input text (Ok output) run named bytes fails = record {
  run = subst (λ (b : List ℕ). IsRunOver w content b) (sym bytes) run;
  named = named;
}
output_made name w content input text (Err stopped) run named bytes fails = subst (StopsOver (IsOfRun input w content)) (sym fails) tt

-- no text was made
run_stops : (name : List ℕ) (w : Whole) (old new : FilesSeen) (inputs : Inputs) (stopped : Stop) → IsInputsFile name old.held inputs → new ≡ old
    → StopsOver (IsOfRun (string_bytes inputs.name) w (content_of inputs.got)) stopped → RunStops name w old new stopped
run_stops name w old new inputs (stop.Refused refusal) is same stands = record {
  inputs = content_of inputs.got;
  found = is.found;
  stands = subst (λ (n : List ℕ). IsOfRun n w (content_of inputs.got) (cause_of refusal)) is.named stands;
  stays = same;
}
run_stops name w old new inputs stop.Unread is same stands = absurd stands
run_stops name w old new inputs stop.Memory is same stands = same

-- what the program comes to with what was found
pub run_with : (name : List ℕ) (w : Whole) (old new : FilesSeen) (inputs : Inputs) (work : Result Output Stop) → IsInputsFile name old.held inputs → new ≡ old
    → MatchResult work (IsRunOutput name w (content_of inputs.got)) (StopsOver (IsOfRun (string_bytes inputs.name) w (content_of inputs.got)))
    → IsRunning name w old new work
run_with name w old new inputs (Ok output) is same made =
    record { inputs = content_of inputs.got; found = is.found; run = made.run; named = made.named; stays = same }
run_with name w old new inputs (Err stopped) is same stands = run_stops name w old new inputs stopped is same stands

-- the inputs weren't got
pub run_ungot : (name : List ℕ) (w : Whole) (old new : FilesSeen) (stopped : Stop) → IsUngot (inputs_name name) old new stopped → RunStops name w old new stopped
run_ungot name w old new (stop.Refused refusal) ungot = absurd ungot
run_ungot name w old new stop.Unread ungot = ungot
run_ungot name w old new stop.Memory ungot = ungot
