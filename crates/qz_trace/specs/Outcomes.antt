-- What a text is as a trace.
use Rattle.std.specs.Prelude.{ℕ, ◌≡◌, List, Option, Some, None, Result, Ok, Err}
use Rattle.std.specs.List.{AllByRecursion}
use Rattle.qz_values.specs.declared.Ty.{Ty}
use Rattle.qz_trace.specs.declared.traces.Trace.{Trace}
use Rattle.qz_trace.specs.declared.faults.BadTrace.{BadTrace}
use Rattle.qz_trace.specs.declared.faults.BadTrace.TheVariants.{At, Memory}
use Rattle.qz_trace.specs.Rows.{IsRow, trace_text, rows_in}
use Rattle.qz_trace.specs.Faults.{Fault, IsFirstFault}

-- The outcome of a text for values of these types: rows whose text it is, or its first fault.
abbrev pub IsOutcome : List Ty → List ℕ → Result (List (List ℕ)) Fault → Type 0
IsOutcome types bytes (Ok rows) = AllByRecursion (IsRow types) rows × (bytes ≡ trace_text rows)
IsOutcome types bytes (Err fault) = IsFirstFault types bytes fault

-- the outcome that a result tells, and none where memory ran out
abbrev pub outcome_of : Result Trace BadTrace → Option (Result (List (List ℕ)) Fault)
outcome_of (Ok t) = Some (Ok (rows_in t))
outcome_of (Err (At line kind)) = Some (Err (record { line = line; kind = kind }))
outcome_of (Err Memory) = None
