-- Rows of inputs, from what was found under their name.
use Rattle.std.proofs.Common.{◌≡◌, ℕ, zero, suc, ◌+◌, ◌≤◌, ◌<◌, ◌^◌, arith, List, [], ◌∷◌, ◌++◌, length, Result, Ok, Err, refl, sym, ap, subst, ◌∙◌, length-append}
use Rattle.std.specs.Prelude.{IfOk, IfSome}
use Rattle.std.specs.List.{AllByRecursion}
use Rattle.qz_values.specs.declared.Ty.{Ty}
use Rattle.qz_values.specs.Types.{IsType}
use Rattle.qz_trace.specs.declared.traces.Trace.{Trace}
use Rattle.qz_trace.specs.Rows.{IsRow, IsWhole, rows_in, row_text, trace_text}
use Rattle.qz_trace.specs.Faults.{Fault}
use Rattle.qz_trace.specs.Outcomes.{IsOutcome}
use Rattle.qz_trace.proofs.Agree.{agree}
use Rattle.qz_trace.proofs.RowLemmas.{rows_count}
use Rattle.qz_diag.specs.Causes.{Cause, BadTrace}
use Rattle.qz_driver.specs.Rows.{Content, Bytes}
use Rattle.qz_driver.specs.SimRow.{IsOfTrace, IsOfInputs, AreInputs}
use Rattle.qz_driver.specs.Running.{AreFound}

pub same_bytes : (a b : List ℕ) → Bytes a ≡ Bytes b → a ≡ b
same_bytes a b same = cc (same)

-- what is found is a trace of these rows alone
pub same_rows : (types : List Ty) (content : Content) (rows others : List (List ℕ)) → AllByRecursion IsType types → AreInputs types content rows
    → AreInputs types content others → others ≡ rows
same_rows types content rows others are one two =
    let same : two.bytes ≡ one.bytes = same_bytes two.bytes one.bytes (sym two.there ∙ one.there) in
    let P : List ℕ → Type 0 = λ bytes. IsOutcome types bytes (Ok others) in
    let left : Result (List (List ℕ)) Fault = Ok others in
    let right : Result (List (List ℕ)) Fault = Ok rows in
    let e : left ≡ right = agree types one.bytes left right are (subst P same two.read) one.read in
    cc (e)

-- nothing stands against the text of rows
trace_clear : (input : List ℕ) (types : List Ty) (bytes : List ℕ) (rows : List (List ℕ)) → AllByRecursion IsType types → AreInputs types (Bytes bytes) rows
    → (cause : Cause) → IsOfTrace input types bytes cause → ⊥
trace_clear input types bytes rows are read (BadTrace other line kind) stands =
    let same = same_bytes bytes read.bytes read.there in
    let fault : Fault = record { line = line; kind = kind } in
    let e : Err fault ≡ Ok rows = agree types read.bytes (Err fault) (Ok rows) are (subst (λ (b : List ℕ). IsOfTrace input types b (BadTrace other line kind)) same stands).1 read.read in
    cc (e)
trace_clear input types bytes rows are read cause stands = stands

pub inputs_clear : (input : List ℕ) (types : List Ty) (content : Content) (rows : List (List ℕ)) → AllByRecursion IsType types → AreInputs types content rows
    → (cause : Cause) → IsOfInputs input types content cause → ⊥
inputs_clear input types content rows are read cause stands =
    trace_clear input types read.bytes rows are (subst (λ (c : Content). AreInputs types c rows) read.there read) cause
    (subst (λ (c : Content). IsOfInputs input types c cause) read.there stands)

-- a text has no more rows than bytes
few_rows : (rows : List (List ℕ)) → length rows ≤ length (trace_text rows)
few_rows [] = omega arith
few_rows (row ∷ rows) = omega (arith, few_rows rows, length-append (row_text row) (10 ∷ trace_text rows))

-- the trace that a text of at most so many bytes is
pub found : (types : List Ty) (bytes : List ℕ) (t : Trace) → length bytes ≤ 16777216 → IsOutcome types bytes (Ok (rows_in t)) → t.width ≡ length types → IsWhole t
    → AreFound types (Bytes bytes) t
found types bytes t within read width whole =
    let few : length (rows_in t) ≤ length bytes = subst (λ (b : List ℕ). length (rows_in t) ≤ length b) (sym read.1) (few_rows (rows_in t)) in
    record {
      read = record { bytes = bytes; there = refl; read = read };
      width = width;
      whole = whole;
      each = read.0;
      short = omega (arith, few, within, rows_count t.width t.steps t.values.items);
    }
