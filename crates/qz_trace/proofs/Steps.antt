-- The outcome of a text by that of what follows its first lines.
use Rattle.std.proofs.Common.{arith, ◌≡◌, ℕ, ◌+◌, false, List, [], ◌∷◌, ◌++◌, length, Result, Ok, Err, IfSome, refl, sym, ap, ◌∙◌, subst, append_assoc, append-nil, length-append}
use Rattle.qz_values.specs.declared.Ty.{Ty}
use Rattle.qz_trace.specs.declared.faults.TraceKind.{TraceKind}
use Rattle.qz_trace.specs.declared.faults.TraceKind.TheVariants.{End}
use Rattle.qz_trace.specs.declared.faults.BadLine.{BadLine}
use Rattle.qz_trace.specs.declared.faults.BadLine.TheVariants.{Fault as FaultOf, Memory}
use Rattle.qz_trace.specs.Lines.{parts_of, lines_in, lines_of, ended_line}
use Rattle.qz_trace.specs.Rows.{IsRow, row_text}
use Rattle.qz_trace.specs.Faults.{Fault}
use Rattle.qz_trace.specs.Reading.{IsFree, IsCut, bad_at, IsLineAnswer}
use Rattle.qz_trace.specs.Outcomes.{IsOutcome, outcome_of}
use Rattle.qz_trace.proofs.PartLemmas.{parts_cut, parts_last, not_empty}

-- an outcome of what follows these rows, as one of all
abbrev pub after_rows : List (List ℕ) → Result (List (List ℕ)) Fault → Result (List (List ℕ)) Fault
after_rows rows (Ok more) = Ok (rows ++ more)
after_rows rows (Err fault) = Err (record { line = length rows + fault.line; kind = fault.kind })

lines_begun : (part : List ℕ) (parts : List (List ℕ)) → (parts ≡ [] → ⊥) → lines_in (part ∷ parts) ≡ ended_line part ∷ lines_in parts
lines_begun part [] some = absurd (some refl)
lines_begun part (p ∷ ps) some = refl

-- a line that ends
pub lines_cut : (line after : List ℕ) → IsFree 10 line → lines_of (line ++ (10 ∷ after)) ≡ ended_line line ∷ lines_of after
lines_cut line after free = ap lines_in (parts_cut 10 line after free) ∙ lines_begun line (parts_of 10 after) (not_empty 10 after)

-- a last line that doesn't
lines_last : (line : List ℕ) → IsFree 10 line → (line ≡ [] → ⊥) → lines_of line ≡ record { text = line; ended = false } ∷ []
lines_last [] free some = absurd (some refl)
lines_last (b ∷ bs) free some = ap lines_in (parts_last 10 (b ∷ bs) free)

-- a right line before what has this outcome
pub outcome_more : (types : List Ty) (bytes line after row : List ℕ) (outcome : Result (List (List ℕ)) Fault)
    → IsCut 10 bytes line after → IsRow types row → line ≡ row_text row → IsOutcome types after outcome
    → IsOutcome types bytes (after_rows (row ∷ []) outcome)
outcome_more types bytes line after row (Ok rows) cut is text (all, rest) =
    ((is, all), cut.joined ∙ (ap (λ l. l ++ (10 ∷ after)) text ∙ ap (λ l. row_text row ++ (10 ∷ l)) rest))
outcome_more types bytes line after row (Err fault) cut is text first = record {
  before = ended_line line ∷ first.before;
  this = first.this;
  after = first.after;
  lines = ap lines_of cut.joined ∙ (lines_cut line after cut.first ∙ ap (λ l. ended_line line ∷ l) first.lines);
  right = ((refl, row, is, text), first.right);
  number = omega (arith, first.number);
  faulty = first.faulty;
}

pub rows_after : (rows : List (List ℕ)) (row : List ℕ) (outcome : Result (List (List ℕ)) Fault)
    → after_rows rows (after_rows (row ∷ []) outcome) ≡ after_rows (rows ++ (row ∷ [])) outcome
rows_after rows row (Ok more) = ap Ok (sym (append_assoc rows (row ∷ []) more))
rows_after rows row (Err fault) =
    let total = length-append rows (row ∷ []) in
    let e : length rows + (1 + fault.line) ≡ length (rows ++ (row ∷ [])) + fault.line = omega (arith, total) in
    ap (λ n. Err (record { line = n; kind = fault.kind })) e

-- what is left, after these rows, has the text's outcome
abbrev pub GoesOn : List Ty → List ℕ → List ℕ → List (List ℕ) → Type 0
GoesOn types bytes rest rows = (outcome : Result (List (List ℕ)) Fault) → IsOutcome types rest outcome → IsOutcome types bytes (after_rows rows outcome)

pub goes_on_more : (types : List Ty) (bytes rest line after row : List ℕ) (rows : List (List ℕ)) → GoesOn types bytes rest rows
    → IsCut 10 rest line after → IsRow types row → line ≡ row_text row → GoesOn types bytes after (rows ++ (row ∷ []))
goes_on_more types bytes rest line after row rows so_far cut is text outcome has =
    subst (IsOutcome types bytes) (rows_after rows row outcome)
    (so_far (after_rows (row ∷ []) outcome) (outcome_more types rest line after row outcome cut is text has))

-- where nothing is left
pub ends : (types : List Ty) (bytes rest : List ℕ) (rows : List (List ℕ)) → GoesOn types bytes rest rows → rest ≡ [] → IsOutcome types bytes (Ok rows)
ends types bytes rest rows so_far none =
    subst (λ l. IsOutcome types bytes (Ok l)) (append-nil rows)
    (so_far (Ok []) (subst (λ l. IsOutcome types l (Ok [])) (sym none) (tt, refl)))

numbered : (types : List Ty) (bytes : List ℕ) (count steps : ℕ) (kind : TraceKind) → count ≡ steps
    → IsOutcome types bytes (Err (record { line = count + 1; kind = kind })) → IsOutcome types bytes (Err (record { line = steps + 1; kind = kind }))
numbered types bytes count steps kind e = subst (λ n. IsOutcome types bytes (Err (record { line = n + 1; kind = kind }))) e

-- where the last line doesn't end
pub stops_unended : (types : List Ty) (bytes rest : List ℕ) (rows : List (List ℕ)) (steps : ℕ) → GoesOn types bytes rest rows → length rows ≡ steps
    → IsFree 10 rest → (rest ≡ [] → ⊥) → IsOutcome types bytes (Err (record { line = steps + 1; kind = End }))
stops_unended types bytes rest rows steps so_far count free some =
    numbered types bytes (length rows) steps End count (so_far (Err (record { line = 1; kind = End })) (record {
      before = [];
      this = record { text = rest; ended = false };
      after = [];
      lines = lines_last rest free some;
      right = tt;
      number = refl;
      faulty = refl;
    }))

-- where a line gives no row
pub stops : (types : List Ty) (bytes rest line after : List ℕ) (rows : List (List ℕ)) (steps : ℕ) (bad : BadLine) (old new : List ℕ)
    → GoesOn types bytes rest rows → length rows ≡ steps → IsCut 10 rest line after → IsLineAnswer types line old (Err bad) new
    → IfSome (outcome_of (Err (bad_at (steps + 1) bad))) (λ outcome. IsOutcome types bytes outcome)
stops types bytes rest line after rows steps (FaultOf kind) old new so_far count cut fault =
    numbered types bytes (length rows) steps kind count (so_far (Err (record { line = 1; kind = kind })) (record {
      before = [];
      this = ended_line line;
      after = lines_of after;
      lines = ap lines_of cut.joined ∙ lines_cut line after cut.first;
      right = tt;
      number = refl;
      faulty = fault;
    }))
stops types bytes rest line after rows steps Memory old new so_far count cut fault = tt
