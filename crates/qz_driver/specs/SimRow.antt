-- The mode `sim`: the row of its name and its file. The Verilog text in the file is read, and its module runs by
-- clocks over the rows of inputs that are held for it.
use Rattle.std.specs.Prelude.{ℕ, ◌≡◌, ◌≢◌, ◌++◌, List, [], ◌∷◌, None, Ok, Err, codes, map, encode_utf8_all}
use Rattle.qz_values.specs.declared.Ty.{Ty}
use Rattle.qz_values.specs.declared.Value.{Value}
use Rattle.qz_values.specs.Values.{bits_of}
use Rattle.qz_verilog.specs.declared.modules.VModule.{VModule}
use Rattle.qz_verilog.specs.Validity.{port_types}
use Rattle.qz_verilog.specs.Simulation.{row_of}
use Rattle.qz_verilog.specs.Runs.{IsRun}
use Rattle.qz_vread.specs.Answers.{IsRead}
use Rattle.qz_vread.specs.Refusals.{IsRefused}
use Rattle.qz_trace.specs.Rows.{trace_text}
use Rattle.qz_trace.specs.Outcomes.{IsOutcome}
use Rattle.qz_diag.specs.Causes.{Cause, WrongName, BadVerilog, BadTrace}
use Rattle.qz_diag.specs.Causes.{Absent as CauseAbsent}
use Rattle.qz_diag.specs.Causes.{TooLong as CauseTooLong}
use Rattle.qz_driver.specs.Rows.{Row, Content, Bytes}
use Rattle.qz_driver.specs.Rows.{Absent as ContentAbsent}
use Rattle.qz_driver.specs.Rows.{TooLong as ContentTooLong}

-- bytes of a Verilog text, and of a trace
abbrev pub largest_verilog : ℕ
largest_verilog = 67108864

abbrev pub largest_trace : ℕ
largest_trace = 16777216

-- the file of the inputs, and the file that is put
abbrev pub inputs_name : List ℕ → List ℕ
inputs_name name = name ++ codes ".in"

abbrev pub outputs_name : List ℕ → List ℕ
outputs_name name = name ++ codes ".out"

-- the bytes are the text of a module of another name
pub record HasOtherName (name bytes who : List ℕ) : Type 0 where
  pub circuit : VModule
  pub read : IsRead bytes circuit
  pub named : who ≡ encode_utf8_all circuit.name
  pub apart : who ≢ name

-- a cause that stands against the bytes of the Verilog text
abbrev pub IsOfVerilog : List ℕ → List ℕ → List ℕ → Cause → Type 0
IsOfVerilog name file bytes (BadVerilog other line) = (other ≡ file) × IsRefused bytes line
IsOfVerilog name file bytes (WrongName other who) = (other ≡ file) × HasOtherName name bytes who
IsOfVerilog name file bytes cause = ⊥

-- a cause that stands against what is found under the file's name
abbrev pub IsOfFile : List ℕ → List ℕ → Content → Cause → Type 0
IsOfFile name file ContentAbsent cause = cause ≡ CauseAbsent file
IsOfFile name file ContentTooLong cause = cause ≡ CauseTooLong file
IsOfFile name file (Bytes bytes) cause = IsOfVerilog name file bytes cause

-- what is found is the text of this module, which has the name
pub record IsCircuit (name : List ℕ) (content : Content) (circuit : VModule) : Type 0 where
  pub bytes : List ℕ
  pub there : content ≡ Bytes bytes
  pub read : IsRead bytes circuit
  pub named : encode_utf8_all circuit.name ≡ name

-- a cause that stands against the bytes of the inputs, which have these types
abbrev pub IsOfTrace : List ℕ → List Ty → List ℕ → Cause → Type 0
IsOfTrace input types bytes (BadTrace other line kind) = (other ≡ input) × IsOutcome types bytes (Err (record { line = line; kind = kind }))
IsOfTrace input types bytes cause = ⊥

-- a cause that stands against what is found under the name of the inputs
abbrev pub IsOfInputs : List ℕ → List Ty → Content → Cause → Type 0
IsOfInputs input types ContentAbsent cause = cause ≡ CauseAbsent input
IsOfInputs input types ContentTooLong cause = cause ≡ CauseTooLong input
IsOfInputs input types (Bytes bytes) cause = IsOfTrace input types bytes cause

-- what is found is the trace of these rows
pub record AreInputs (types : List Ty) (content : Content) (rows : List (List ℕ)) : Type 0 where
  pub bytes : List ℕ
  pub there : content ≡ Bytes bytes
  pub read : IsOutcome types bytes (Ok rows)

-- a cause that stands against the inputs of the circuit in the file
pub record IsOfCircuitInputs (name : List ℕ) (text inputs : Content) (cause : Cause) : Type 0 where
  pub circuit : VModule
  pub is : IsCircuit name text circuit
  pub stands : IsOfInputs (inputs_name name) (port_types circuit.inputs) inputs cause

abbrev pub sim_against : List ℕ → List ℕ → List Content → Cause → Type 0
sim_against name file [] cause = ⊥
sim_against name file (text ∷ []) cause = IsOfFile name file text cause
sim_against name file (text ∷ inputs ∷ []) cause = IsOfCircuitInputs name text inputs cause
sim_against name file (text ∷ inputs ∷ more ∷ others) cause = ⊥

-- the text of the outputs of the module's run over rows of inputs, a line for each clock
pub record IsOutputs (circuit : VModule) (rows : List (List ℕ)) (text : List ℕ) : Type 0 where
  pub outs : List (List Value)
  pub run : IsRun circuit (map (row_of (port_types circuit.inputs)) rows) outs
  pub written : text ≡ trace_text (map (map bits_of) outs)

pub record SimMakes (name : List ℕ) (contents : List Content) (text : List ℕ) : Type 0 where
  pub verilog : Content
  pub inputs : Content
  pub there : contents ≡ verilog ∷ inputs ∷ []
  pub circuit : VModule
  pub is : IsCircuit name verilog circuit
  pub rows : List (List ℕ)
  pub read : AreInputs (port_types circuit.inputs) inputs rows
  pub outputs : IsOutputs circuit rows text

abbrev pub sim_row : List ℕ → List ℕ → Row
sim_row name file = record {
  reads = record { name = file; limit = largest_verilog } ∷ record { name = inputs_name name; limit = largest_trace } ∷ [];
  against = sim_against name file;
  puts = outputs_name name;
  makes = SimMakes name;
  says = None;
}
