-- What a `sim` comes to, from what was found under the names of its files.
use Rattle.std.proofs.Common.{◌≡◌, ℕ, List, [], ◌∷◌, length, Result, Ok, Err, IfOk, Vec, refl, sym, ap, subst, ◌∙◌, string_bytes}
use Rattle.std.specs.Prelude.{encode_utf8_all, IfErr, MatchResult}
use Rattle.std.specs.declared.alloc.Global.{Global}
use Rattle.std.specs.declared.alloc.AllocError.{AllocError}
use Rattle.std.proofs.lemmas.List.{length-map}
use Rattle.qz_syntax.specs.declared.declarations.Port.{Port}
use Rattle.std.specs.List.{AllByRecursion}
use Rattle.qz_values.specs.declared.Ty.{Ty}
use Rattle.qz_verilog.specs.declared.modules.VModule.{VModule}
use Rattle.qz_verilog.specs.Validity.{port_types}
use Rattle.qz_vread.specs.Answers.{IsRead}
use Rattle.qz_trace.specs.declared.traces.Trace.{Trace}
use Rattle.qz_trace.specs.Rows.{rows_in, trace_text}
use Rattle.qz_diag.specs.Causes.{Cause, WrongName, BadVerilog}
use Rattle.qz_driver.specs.declared.work.Output.{Output}
use Rattle.qz_driver.specs.declared.work.Stop.{Stop}
use Rattle.qz_driver.specs.declared.work.Stop.TheVariants as stop
use Rattle.qz_driver.specs.Rows.{Content, Bytes, Read}
use Rattle.qz_driver.specs.Answers.{FilesSeen}
use Rattle.qz_driver.specs.SimRow.{largest_verilog, largest_trace, inputs_name, outputs_name, IsOfVerilog, IsOfFile, IsCircuit, IsOfInputs, AreInputs, IsOfCircuitInputs, IsOutputs, sim_against, SimMakes, sim_row}
use Rattle.qz_driver.specs.Work.{IsFound, IsUngot, StopsOver, Stops, IsWork}
use Rattle.qz_driver.specs.Running.{AreFound}
use Rattle.qz_driver.specs.Simulating.{AreInputsOf, AreOutputs, SimStops, IsSimulated}
use Rattle.qz_driver.proofs.ClockLemmas.{outputs_as_values, all_back, all_wide}
use Rattle.qz_driver.proofs.InputLemmas.{same_bytes, inputs_clear}
use Rattle.qz_driver.proofs.RowLemmas.{first_ungot, first_stops, second_ungot, second_stops, both_made}

-- the module that a text is
same_circuit : (name : List ℕ) (content : Content) (m other : VModule) → IsCircuit name content m → IsCircuit name content other → other ≡ m
same_circuit name content m other one two =
    let same = same_bytes two.bytes one.bytes (sym two.there ∙ one.there) in
    one.read.only other two.read.is (sym two.read.text.written ∙ same)

module _ (name file : List ℕ) where
  abbrev verilog : Read
  verilog = record { name = file; limit = largest_verilog }

  abbrev trace : Read
  trace = record { name = inputs_name name; limit = largest_trace }

  nothing_before : (cause : Cause) → sim_against name file [] cause → ⊥
  nothing_before cause stands = stands

  -- nothing stands against the text of the module
  verilog_clear : (bytes : List ℕ) (m : VModule) → IsRead bytes m → encode_utf8_all m.name ≡ name → (cause : Cause) → IsOfVerilog name file bytes cause → ⊥
  verilog_clear bytes m read named (WrongName other who) stands =
      let wrong = stands.1 in
      let same : wrong.circuit ≡ m = read.only wrong.circuit wrong.read.is (sym wrong.read.text.written) in
      wrong.apart (wrong.named ∙ (ap (λ (c : VModule). encode_utf8_all c.name) same ∙ named))
  verilog_clear bytes m read named (BadVerilog other line) stands = stands.1.no_text m read.is (sym read.text.written)
  verilog_clear bytes m read named cause stands = stands

  file_clear : (content : Content) (m : VModule) → IsCircuit name content m → (cause : Cause) → IsOfFile name file content cause → ⊥
  file_clear content m is cause stands =
      verilog_clear is.bytes m is.read is.named cause (subst (λ (c : Content). IsOfFile name file c cause) is.there stands)

  both_clear : (text inputs : Content) (m : VModule) (rows : List (List ℕ)) → IsCircuit name text m → AreInputs (port_types m.inputs) inputs rows
      → (cause : Cause) → IsOfCircuitInputs name text inputs cause → ⊥
  both_clear text inputs m rows is read cause stands =
      let same : stands.circuit ≡ m = same_circuit name text m stands.circuit is stands.is in
      inputs_clear (inputs_name name) (port_types m.inputs) inputs rows is.read.is.valid.inputs read cause
      (subst (λ (c : VModule). IsOfInputs (inputs_name name) (port_types c.inputs) inputs cause) same stands.stands)

  pub text_ungot : (old new : FilesSeen) (stopped : Stop) → IsUngot file old new stopped → Stops (sim_row name file) old new stopped
  text_ungot = first_ungot verilog (trace ∷ []) (sim_against name file) (outputs_name name) (SimMakes name) nothing_before

  pub text_stops : (old new : FilesSeen) (content : Content) (stopped : Stop) → IsFound file largest_verilog old.held content → new ≡ old
      → StopsOver (IsOfFile name file content) stopped → Stops (sim_row name file) old new stopped
  text_stops = first_stops verilog (trace ∷ []) (sim_against name file) (outputs_name name) (SimMakes name) nothing_before

  -- what the circuit in the text comes to
  pub simulated : (old new : FilesSeen) (content : Content) (m : VModule) (work : Result Output Stop) → IsFound file largest_verilog old.held content
      → IsCircuit name content m → IsSimulated name m old new work → IsWork (sim_row name file) old new work
  simulated old new content m (Ok output) found is did = record {
    name = did.named;
    made = both_made verilog trace (sim_against name file) (outputs_name name) (SimMakes name) nothing_before content (file_clear content m is)
        old.held did.inputs output.bytes.items found did.found (both_clear content did.inputs m did.rows is did.read)
        (record { verilog = content; inputs = did.inputs; there = refl; circuit = m; is = is; rows = did.rows; read = did.read; outputs = did.outputs });
    stays = did.stays;
  }
  simulated old new content m (Err (stop.Refused refusal)) found is did =
      second_stops verilog trace (sim_against name file) (outputs_name name) (SimMakes name) nothing_before content (file_clear content m is)
      old new did.inputs (stop.Refused refusal) found did.found did.stays (record { circuit = m; is = is; stands = did.stands })
  simulated old new content m (Err stop.Unread) found is did =
      second_ungot verilog trace (sim_against name file) (outputs_name name) (SimMakes name) nothing_before content (file_clear content m is)
      old new stop.Unread found did
  simulated old new content m (Err stop.Memory) found is did = did

-- the rows of a circuit's inputs
pub circuit_rows : (m : VModule) (content : Content) (rows : Trace) → AreFound (port_types m.inputs) content rows → AreInputsOf m content rows
circuit_rows m content rows found = record {
  read = found.read;
  fit = record {
    width = found.width ∙ length-map m.inputs (λ (port : Port). port.ty);
    whole = found.whole;
    each = found.each;
  };
}

pub circuit_found : (m : VModule) (content : Content) (input : List ℕ) (types : List Ty) (r : Result Trace Stop) → types ≡ port_types m.inputs
    → MatchResult r (AreFound types content) (StopsOver (IsOfInputs input types content))
    → MatchResult r (AreInputsOf m content) (StopsOver (IsOfInputs input (port_types m.inputs) content))
circuit_found m content input types (Ok rows) same found = circuit_rows m content rows (subst (λ (ts : List Ty). AreFound ts content rows) same found)
circuit_found m content input types (Err stopped) same stands = subst (λ (ts : List Ty). StopsOver (IsOfInputs input ts content) stopped) same stands

-- the text of a run's outputs
pub outputs_told : (m : VModule) (rows outs : Trace) (r : Result (Vec ℕ Global) AllocError) → AreOutputs m rows outs
    → IfOk r (λ bytes. bytes.items ≡ trace_text (rows_in outs)) → IfOk r (λ text. IsOutputs m (rows_in rows) text.items)
outputs_told m rows outs (Ok bytes) are told =
    let types = port_types m.outputs in
    let wide : outs.width ≡ length types = are.width ∙ sym (length-map m.outputs (λ (port : Port). port.ty)) in
    let all : AllByRecursion (λ row. length row ≡ length types) (rows_in outs) =
    subst (λ (w : ℕ). AllByRecursion (λ (row : List ℕ). length row ≡ w) (rows_in outs)) wide (all_wide outs.width outs.steps outs.values.items are.whole) in
    record { outs = outputs_as_values m (rows_in outs); run = are.run; written = told ∙ ap trace_text (sym (all_back types (rows_in outs) all)) }
outputs_told m rows outs (Err fault) are told = tt

-- the file of the outputs, where it was made
pub outputs_made : (name : List ℕ) (m : VModule) (old new : FilesSeen) (input : List ℕ) (content : Content) (rows : Trace) (text : List ℕ) (work : Result Output Stop)
    → input ≡ inputs_name name → IsFound input largest_trace old.held content → new ≡ old → AreInputsOf m content rows → IsOutputs m (rows_in rows) text
    → IfOk work (λ output. string_bytes output.name ≡ outputs_name name) → IfOk work (λ output. output.bytes.items ≡ text) → IfErr work (λ stopped. stopped ≡ stop.Memory)
    → IsSimulated name m old new work
outputs_made name m old new input content rows text (Ok output) is found same read told named bytes fails = record {
  inputs = content;
  found = subst (λ (n : List ℕ). IsFound n largest_trace old.held content) is found;
  rows = rows_in rows;
  read = read.read;
  outputs = subst (λ (b : List ℕ). IsOutputs m (rows_in rows) b) (sym bytes) told;
  named = named;
  stays = same;
}
outputs_made name m old new input content rows text (Err stopped) is found same read told named bytes fails =
    subst (λ (s : Stop). SimStops name m old new s) (sym fails) same
