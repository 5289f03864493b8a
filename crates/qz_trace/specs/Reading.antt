-- What the steps of reading answer.
use Rattle.std.specs.Prelude.{ℕ, ◌≡◌, ◌≢◌, ◌<◌, ◌^◌, List, [], ◌∷◌, ◌++◌, length, get_or, Result, Ok, Err}
use Rattle.std.specs.Fmt.{decimal}
use Rattle.qz_values.specs.declared.Ty.{Ty}
use Rattle.qz_values.specs.Types.{width_of}
use Rattle.qz_trace.specs.declared.faults.TraceKind.{TraceKind}
use Rattle.qz_trace.specs.declared.faults.BadLine.{BadLine}
use Rattle.qz_trace.specs.declared.faults.BadLine.TheVariants.{Fault, Memory}
use Rattle.qz_trace.specs.declared.faults.BadTrace.{BadTrace}
use Rattle.qz_trace.specs.declared.faults.BadTrace.TheVariants.{At, Memory as NoMemory}
use Rattle.qz_trace.specs.Lines.{ended_line}
use Rattle.qz_trace.specs.Rows.{IsRow, row_text}
use Rattle.qz_trace.specs.Faults.{IsFieldFault, IsFieldsFault, IsLineFault}

-- none of the bytes separates
abbrev pub IsFree : ℕ → List ℕ → Type 0
IsFree separator part = (i : ℕ) → i < length part → get_or part i 0 ≢ separator

-- why a text is no trace, by why the line with this number gives no row
abbrev pub bad_at : ℕ → BadLine → BadTrace
bad_at line (Fault kind) = At line kind
bad_at line Memory = NoMemory

-- bytes are cut at the first byte that separates
pub record IsCut (separator : ℕ) (bytes part after : List ℕ) : Type 0 where
  pub joined : bytes ≡ part ++ (separator ∷ after)
  pub first : IsFree separator part

-- the number that a field is, or what is at fault in it
abbrev pub IsFieldAnswer : Ty → List ℕ → Result ℕ TraceKind → Type 0
IsFieldAnswer t field (Ok number) = (number < 2 ^ width_of t) × (field ≡ decimal number)
IsFieldAnswer t field (Err kind) = IsFieldFault t field kind

-- each field is the text of its number
abbrev pub AreTexts : List (List ℕ) → List ℕ → Type 0
AreTexts [] [] = Unit {0}
AreTexts [] (n ∷ ns) = ⊥
AreTexts (field ∷ fields) [] = ⊥
AreTexts (field ∷ fields) (n ∷ ns) = (field ≡ decimal n) × AreTexts fields ns

-- the row that the fields are follows these numbers, or what is at fault in the leftmost field at fault
abbrev pub IsFieldsAnswer : List Ty → List (List ℕ) → List ℕ → Result Unit BadLine → List ℕ → Type 0
IsFieldsAnswer types fields old (Ok done) new = (row : List ℕ) × IsRow types row × AreTexts fields row × (new ≡ old ++ row)
IsFieldsAnswer types fields old (Err (Fault kind)) new = IsFieldsFault types fields kind
IsFieldsAnswer types fields old (Err Memory) new = Unit {0}

-- the row whose text the line is follows these numbers, or what is at fault in the line
abbrev pub IsLineAnswer : List Ty → List ℕ → List ℕ → Result Unit BadLine → List ℕ → Type 0
IsLineAnswer types line old (Ok done) new = (row : List ℕ) × IsRow types row × (line ≡ row_text row) × (new ≡ old ++ row)
IsLineAnswer types line old (Err (Fault kind)) new = IsLineFault types (ended_line line) kind
IsLineAnswer types line old (Err Memory) new = Unit {0}
