-- A text has at most one outcome.
use Rattle.std.proofs.Common.{arith, ◌≡◌, ℕ, suc, ◌+◌, List, [], ◌∷◌, ◌++◌, map, length, Result, Ok, Err, IfSome, refl, sym, ap, ◌∙◌, subst, inl, inr}
use Rattle.std.specs.List.{AllByRecursion, flat_map}
use Rattle.std.specs.Fmt.{decimal}
use Rattle.std.proofs.lemmas.Bool.{both_ways}
use Rattle.std.proofs.lemmas.Fmt.{decimal_injective}
use Rattle.std.proofs.lemmas.List.{length-map}
use Rattle.qz_values.specs.declared.Ty.{Ty}
use Rattle.qz_values.specs.Types.{IsType}
use Rattle.qz_trace.specs.declared.traces.Trace.{Trace}
use Rattle.qz_trace.specs.declared.faults.BadTrace.{BadTrace}
use Rattle.qz_trace.specs.declared.faults.BadTrace.TheVariants.{At, Memory}
use Rattle.qz_trace.specs.declared.faults.TraceKind.{TraceKind}
use Rattle.qz_trace.specs.declared.faults.TraceKind.TheVariants.{End, Count, Form, Range}
use Rattle.qz_trace.specs.Lines.{Line, lines_of, fields_of, ended_line}
use Rattle.qz_trace.specs.Rows.{IsRow, row_text, trace_text}
use Rattle.qz_trace.specs.Faults.{Fault, IsFieldFault, IsRightField, IsFieldsFault, IsLineFault, IsRightLine}
use Rattle.qz_trace.specs.Reading.{IsFree}
use Rattle.qz_trace.specs.Outcomes.{IsOutcome, outcome_of}
use Rattle.qz_trace.proofs.PartLemmas.{free_append, free_cons}
use Rattle.qz_trace.proofs.Decimals.{held, decimal_right, decimal_free}
use Rattle.qz_trace.proofs.FieldLemmas.{row_fields}
use Rattle.qz_trace.proofs.RowLemmas.{row_length}
use Rattle.qz_trace.proofs.Steps.{lines_cut}

-- fields

right_field : (t : Ty) (f : List ℕ) (kind : TraceKind) → IsRightField t f → IsFieldFault t f kind → ⊥
right_field t f End right fault = fault
right_field t f Count right fault = fault
right_field t f Form right fault = fault right.0
right_field t f Range right fault = let small = right.1 in let large = fault.1 in omega (arith, small, large)

field_kinds : (t : Ty) (f : List ℕ) (a b : TraceKind) → IsFieldFault t f a → IsFieldFault t f b → a ≡ b
field_kinds t f End b one other = absurd one
field_kinds t f Count b one other = absurd one
field_kinds t f Form End one other = absurd other
field_kinds t f Form Count one other = absurd other
field_kinds t f Form Form one other = refl
field_kinds t f Form Range one other = absurd (one other.0)
field_kinds t f Range End one other = absurd other
field_kinds t f Range Count one other = absurd other
field_kinds t f Range Form one other = absurd (other one.0)
field_kinds t f Range Range one other = refl

fields_kinds : (ts : List Ty) (fs : List (List ℕ)) (a b : TraceKind) → IsFieldsFault ts fs a → IsFieldsFault ts fs b → a ≡ b
fields_kinds [] fs a b one other = absurd one
fields_kinds (t ∷ ts) [] a b one other = absurd one
fields_kinds (t ∷ ts) (f ∷ fs) a b (inl one) (inl other) = field_kinds t f a b one other
fields_kinds (t ∷ ts) (f ∷ fs) a b (inl one) (inr other) = absurd (right_field t f a other.0 one)
fields_kinds (t ∷ ts) (f ∷ fs) a b (inr one) (inl other) = absurd (right_field t f b one.0 other)
fields_kinds (t ∷ ts) (f ∷ fs) a b (inr one) (inr other) = fields_kinds ts fs a b one.1 other.1

right_fields : (ts : List Ty) (row : List ℕ) (kind : TraceKind) → AllByRecursion IsType ts → IsRow ts row → IsFieldsFault ts (map decimal row) kind → ⊥
right_fields [] row kind types is fault = fault
right_fields (t ∷ ts) [] kind types is fault = fault
right_fields (t ∷ ts) (n ∷ ns) kind types is (inl here) = right_field t (decimal n) kind (decimal_right t n types.0 is.0) here
right_fields (t ∷ ts) (n ∷ ns) kind types is (inr later) = right_fields ts ns kind types.1 is.1 later.1

-- lines

right_count : (ts : List Ty) (line : Line) → AllByRecursion IsType ts → IsRightLine ts line → length (fields_of ts line.text) ≡ length ts
right_count ts line types (ended, row, is, text) =
    ap (λ l. length (fields_of ts l)) text ∙ (ap length (row_fields ts row types is) ∙ (length-map row decimal ∙ row_length ts row is))

fault_of_row : (ts : List Ty) (line : Line) (kind : TraceKind) → AllByRecursion IsType ts → IsRightLine ts line → IsFieldsFault ts (fields_of ts line.text) kind → ⊥
fault_of_row ts line kind types (ended, row, is, text) fault =
    right_fields ts row kind types is (subst (λ fs. IsFieldsFault ts fs kind) (ap (fields_of ts) text ∙ row_fields ts row types is) fault)

right_line : (ts : List Ty) (line : Line) (kind : TraceKind) → AllByRecursion IsType ts → IsRightLine ts line → IsLineFault ts line kind → ⊥
right_line ts line End types right fault = both_ways line.ended fault right.0
right_line ts line Count types right fault = fault.1 (right_count ts line types right)
right_line ts line Form types right fault = fault_of_row ts line Form types right fault.2
right_line ts line Range types right fault = fault_of_row ts line Range types right fault.2

line_kinds : (ts : List Ty) (line : Line) (a b : TraceKind) → IsLineFault ts line a → IsLineFault ts line b → a ≡ b
line_kinds ts line End End one other = refl
line_kinds ts line End Count one other = absurd (both_ways line.ended one other.0)
line_kinds ts line End Form one other = absurd (both_ways line.ended one other.0)
line_kinds ts line End Range one other = absurd (both_ways line.ended one other.0)
line_kinds ts line Count End one other = absurd (both_ways line.ended other one.0)
line_kinds ts line Count Count one other = refl
line_kinds ts line Count Form one other = absurd (one.1 other.1)
line_kinds ts line Count Range one other = absurd (one.1 other.1)
line_kinds ts line Form End one other = absurd (both_ways line.ended other one.0)
line_kinds ts line Form Count one other = absurd (other.1 one.1)
line_kinds ts line Form Form one other = refl
line_kinds ts line Form Range one other = fields_kinds ts (fields_of ts line.text) Form Range one.2 other.2
line_kinds ts line Range End one other = absurd (both_ways line.ended other one.0)
line_kinds ts line Range Count one other = absurd (other.1 one.1)
line_kinds ts line Range Form one other = fields_kinds ts (fields_of ts line.text) Range Form one.2 other.2
line_kinds ts line Range Range one other = refl

decimals : (ts : List Ty) (a b : List ℕ) → AllByRecursion IsType ts → IsRow ts a → IsRow ts b → map decimal a ≡ map decimal b → a ≡ b
decimals [] [] [] types one other e = refl
decimals [] [] (m ∷ b) types one other e = absurd other
decimals [] (n ∷ a) b types one other e = absurd one
decimals (t ∷ ts) [] b types one other e = absurd one
decimals (t ∷ ts) (n ∷ a) [] types one other e = absurd other
decimals (t ∷ ts) (n ∷ a) (m ∷ b) types one other e =
    let head : decimal n ≡ decimal m = cc in
    let tail : map decimal a ≡ map decimal b = cc in
    let first = decimal_injective n m (held t n types.0 one.0) (held t m types.0 other.0) head in
    ap (λ x. x ∷ a) first ∙ ap (λ l. m ∷ l) (decimals ts a b types.1 one.1 other.1 tail)

rows : (ts : List Ty) (a b : List ℕ) → AllByRecursion IsType ts → IsRow ts a → IsRow ts b → row_text a ≡ row_text b → a ≡ b
rows ts a b types one other e =
    decimals ts a b types one other (sym (row_fields ts a types one) ∙ (ap (fields_of ts) e ∙ row_fields ts b types other))

-- texts

spaces_free : (ts : List Ty) (row : List ℕ) → AllByRecursion IsType ts → IsRow ts row → IsFree 10 (flat_map (λ m. 32 ∷ decimal m) row)
spaces_free [] [] types is = λ i within. absurd (omega (arith, within))
spaces_free [] (n ∷ ns) types is = absurd is
spaces_free (t ∷ ts) [] types is = absurd is
spaces_free (t ∷ ts) (n ∷ ns) types is =
    free_cons 10 32 (decimal n ++ flat_map (λ m. 32 ∷ decimal m) ns) (omega arith)
    (free_append 10 (decimal n) (flat_map (λ m. 32 ∷ decimal m) ns) (decimal_free 10 n (omega arith) (held t n types.0 is.0)) (spaces_free ts ns types.1 is.1))

row_free : (ts : List Ty) (row : List ℕ) → AllByRecursion IsType ts → IsRow ts row → IsFree 10 (row_text row)
row_free [] [] types is = λ i within. absurd (omega (arith, within))
row_free [] (n ∷ ns) types is = absurd is
row_free (t ∷ ts) [] types is = absurd is
row_free (t ∷ ts) (n ∷ ns) types is =
    free_append 10 (decimal n) (flat_map (λ m. 32 ∷ decimal m) ns) (decimal_free 10 n (omega arith) (held t n types.0 is.0)) (spaces_free ts ns types.1 is.1)

abbrev line_of : List ℕ → Line
line_of row = ended_line (row_text row)

trace_lines : (ts : List Ty) (all : List (List ℕ)) → AllByRecursion IsType ts → AllByRecursion (IsRow ts) all → lines_of (trace_text all) ≡ map line_of all
trace_lines ts [] types are = refl
trace_lines ts (row ∷ all) types are =
    lines_cut (row_text row) (trace_text all) (row_free ts row types are.0) ∙ ap (λ l. ended_line (row_text row) ∷ l) (trace_lines ts all types are.1)

-- outcomes

same_rows : (ts : List Ty) (a b : List (List ℕ)) → AllByRecursion IsType ts → AllByRecursion (IsRow ts) a → AllByRecursion (IsRow ts) b
    → map line_of a ≡ map line_of b → a ≡ b
same_rows ts [] [] types one other e = refl
same_rows ts [] (s ∷ b) types one other e = let l = ap length e in absurd (omega (arith, l))
same_rows ts (r ∷ a) [] types one other e = let l = ap length e in absurd (omega (arith, l))
same_rows ts (r ∷ a) (s ∷ b) types one other e =
    let head : line_of r ≡ line_of s = cc in
    let tail : map line_of a ≡ map line_of b = cc in
    let first = rows ts r s types one.0 other.0 (ap (λ l. l.text) head) in
    ap (λ x. x ∷ a) first ∙ ap (λ l. s ∷ l) (same_rows ts a b types one.1 other.1 tail)

no_fault : (ts : List Ty) (all : List (List ℕ)) (before : List Line) (this : Line) (after : List Line) (kind : TraceKind) → AllByRecursion IsType ts
    → AllByRecursion (IsRow ts) all → map line_of all ≡ before ++ (this ∷ after) → IsLineFault ts this kind → ⊥
no_fault ts [] [] this after kind types are e fault = let l = ap length e in omega (arith, l)
no_fault ts [] (b ∷ before) this after kind types are e fault = let l = ap length e in omega (arith, l)
no_fault ts (r ∷ all) [] this after kind types are e fault =
    let head : line_of r ≡ this = cc in
    right_line ts this kind types (subst (IsRightLine ts) head (refl, r, are.0, refl)) fault
no_fault ts (r ∷ all) (b ∷ before) this after kind types are e fault =
    let tail : map line_of all ≡ before ++ (this ∷ after) = cc in
    no_fault ts all before this after kind types are.1 tail fault

same_fault : (ts : List Ty) (a b : List Line) (this that : Line) (after rest : List Line) (k l : TraceKind) → AllByRecursion IsType ts
    → AllByRecursion (IsRightLine ts) a → AllByRecursion (IsRightLine ts) b → a ++ (this ∷ after) ≡ b ++ (that ∷ rest)
    → IsLineFault ts this k → IsLineFault ts that l → (length a ≡ length b) × (k ≡ l)
same_fault ts [] [] this that after rest k l types right good e one other =
    let head : this ≡ that = cc in
    (refl, line_kinds ts that k l (subst (λ x. IsLineFault ts x k) head one) other)
same_fault ts [] (x ∷ b) this that after rest k l types right good e one other =
    let head : this ≡ x = cc in
    absurd (right_line ts x k types good.0 (subst (λ x. IsLineFault ts x k) head one))
same_fault ts (x ∷ a) [] this that after rest k l types right good e one other =
    let head : that ≡ x = cc in
    absurd (right_line ts x l types right.0 (subst (λ x. IsLineFault ts x l) head other))
same_fault ts (x ∷ a) (y ∷ b) this that after rest k l types right good e one other =
    let tail : a ++ (this ∷ after) ≡ b ++ (that ∷ rest) = cc in
    let more = same_fault ts a b this that after rest k l types right.1 good.1 tail one other in
    (ap suc more.0, more.1)

pub agree : (ts : List Ty) (bytes : List ℕ) (a b : Result (List (List ℕ)) Fault) → AllByRecursion IsType ts → IsOutcome ts bytes a → IsOutcome ts bytes b → a ≡ b
agree ts bytes (Ok a) (Ok b) types one other =
    let e = sym (trace_lines ts a types one.0) ∙ (ap lines_of (sym one.1 ∙ other.1) ∙ trace_lines ts b types other.0) in
    ap Ok (same_rows ts a b types one.0 other.0 e)
agree ts bytes (Ok a) (Err f) types one other =
    let e = sym (trace_lines ts a types one.0) ∙ (ap lines_of (sym one.1) ∙ other.lines) in
    absurd (no_fault ts a other.before other.this other.after f.kind types one.0 e other.faulty)
agree ts bytes (Err f) (Ok b) types one other =
    let e = sym (trace_lines ts b types other.0) ∙ (ap lines_of (sym other.1) ∙ one.lines) in
    absurd (no_fault ts b one.before one.this one.after f.kind types other.0 e one.faulty)
agree ts bytes (Err f) (Err g) types one other =
    let same = same_fault ts one.before other.before one.this other.this one.after other.after f.kind g.kind types one.right other.right
    (sym one.lines ∙ other.lines) one.faulty other.faulty in
    let line : f.line ≡ g.line = one.number ∙ (ap (λ n. n + 1) same.0 ∙ sym other.number) in
    let kind = same.1 in
    λ i. Err (record { line = line i; kind = kind i })

-- what is told is the text's only outcome
pub only : (ts : List Ty) (bytes : List ℕ) (r : Result Trace BadTrace) → AllByRecursion IsType ts
    → IfSome (outcome_of r) (λ outcome. IsOutcome ts bytes outcome) → (outcome : Result (List (List ℕ)) Fault) → IsOutcome ts bytes outcome
    → IfSome (outcome_of r) (λ told. told ≡ outcome)
only ts bytes (Ok t) types found outcome has = agree ts bytes _ outcome types found has
only ts bytes (Err (At line kind)) types found outcome has = agree ts bytes _ outcome types found has
only ts bytes (Err Memory) types found outcome has = tt
