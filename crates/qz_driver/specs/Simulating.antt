-- Parts of a `sim`: rows of inputs, the circuit's outputs over them, and what its inputs come to.
use Rattle.std.specs.Prelude.{ℕ, ◌≡◌, List, map, length, Ok, Err, Result, string_bytes}
use Rattle.std.specs.List.{AllByRecursion}
use Rattle.qz_verilog.specs.declared.modules.VModule.{VModule}
use Rattle.qz_verilog.specs.Validity.{port_types}
use Rattle.qz_verilog.specs.Simulation.{row_of}
use Rattle.qz_verilog.specs.Runs.{IsRun}
use Rattle.qz_trace.specs.declared.traces.Trace.{Trace}
use Rattle.qz_trace.specs.Rows.{IsRow, IsWhole, rows_in}
use Rattle.qz_driver.specs.declared.work.Output.{Output}
use Rattle.qz_driver.specs.declared.work.Stop.{Stop}
use Rattle.qz_driver.specs.declared.work.Stop.TheVariants as stop
use Rattle.qz_driver.specs.Rows.{Content}
use Rattle.qz_driver.specs.Answers.{FilesSeen}
use Rattle.qz_driver.specs.SimRow.{inputs_name, outputs_name, largest_trace, IsOfInputs, AreInputs, IsOutputs}
use Rattle.qz_driver.specs.Work.{IsFound, IsMissed, StopsOver}

-- rows of a circuit's inputs
pub record AreRows (circuit : VModule) (rows : Trace) : Type 0 where
  pub width : rows.width ≡ length circuit.inputs
  pub whole : IsWhole rows
  pub each : AllByRecursion (IsRow (port_types circuit.inputs)) (rows_in rows)

-- what is found is the trace of these rows
pub record AreInputsOf (circuit : VModule) (content : Content) (rows : Trace) : Type 0 where
  pub read : AreInputs (port_types circuit.inputs) content (rows_in rows)
  pub fit : AreRows circuit rows

-- the outputs of the circuit's run over rows of inputs
pub record AreOutputs (circuit : VModule) (rows outs : Trace) : Type 0 where
  pub width : outs.width ≡ length circuit.outputs
  pub whole : IsWhole outs
  pub run : IsRun circuit (map (row_of (port_types circuit.inputs)) (rows_in rows)) (map (row_of (port_types circuit.outputs)) (rows_in outs))

-- the file of the outputs was made
pub record MakesOutputs (name : List ℕ) (circuit : VModule) (old new : FilesSeen) (output : Output) : Type 0 where
  pub inputs : Content
  pub found : IsFound (inputs_name name) largest_trace old.held inputs
  pub rows : List (List ℕ)
  pub read : AreInputs (port_types circuit.inputs) inputs rows
  pub outputs : IsOutputs circuit rows output.bytes.items
  pub named : string_bytes output.name ≡ outputs_name name
  pub stays : new ≡ old

-- a cause stands against the inputs
pub record RefusesInputs (name : List ℕ) (circuit : VModule) (old new : FilesSeen) (stopped : Stop) : Type 0 where
  pub inputs : Content
  pub found : IsFound (inputs_name name) largest_trace old.held inputs
  pub stands : StopsOver (IsOfInputs (inputs_name name) (port_types circuit.inputs) inputs) stopped
  pub stays : new ≡ old

abbrev pub SimStops : List ℕ → VModule → FilesSeen → FilesSeen → Stop → Type 0
SimStops name circuit old new (stop.Refused refusal) = RefusesInputs name circuit old new (stop.Refused refusal)
SimStops name circuit old new stop.Unread = IsMissed (inputs_name name) old new
SimStops name circuit old new stop.Memory = new ≡ old

-- what a circuit with this name comes to, once it was read
abbrev pub IsSimulated : List ℕ → VModule → FilesSeen → FilesSeen → Result Output Stop → Type 0
IsSimulated name circuit old new (Ok output) = MakesOutputs name circuit old new output
IsSimulated name circuit old new (Err stopped) = SimStops name circuit old new stopped
