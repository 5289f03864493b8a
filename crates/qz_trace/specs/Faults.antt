-- What is at fault in a line, and the first line at fault.
use Rattle.std.specs.Prelude.{ℕ, ◌≡◌, ◌≢◌, ◌⊎◌, ◌<◌, ◌≤◌, ◌+◌, ◌^◌, true, false, List, [], ◌∷◌, ◌++◌, length, get_or}
use Rattle.std.specs.List.{AllByRecursion}
use Rattle.std.specs.Str.Parse.{digits_value}
use Rattle.std.specs.Int.{IsInRange}
use Rattle.qz_values.specs.declared.Ty.{Ty}
use Rattle.qz_values.specs.Types.{width_of}
use Rattle.qz_trace.specs.declared.faults.TraceKind.{TraceKind}
use Rattle.qz_trace.specs.declared.faults.TraceKind.TheVariants.{End, Count, Form, Range}
use Rattle.qz_trace.specs.Lines.{Line, lines_of, fields_of}
use Rattle.qz_trace.specs.Rows.{IsRow, row_text}

-- each byte is a decimal digit
abbrev pub AreDigits : List ℕ → Type 0
AreDigits field = (i : ℕ) → i < length field → IsInRange 48 57 (get_or field i 0)

-- digits, without a zero before others
pub record IsDecimal (field : List ℕ) : Type 0 where
  pub digits : AreDigits field
  pub some : 0 < length field
  pub begins : get_or field 0 0 ≡ 48 → length field ≡ 1

-- a field is no decimal number, or one that the type's bits don't hold
abbrev pub IsFieldFault : Ty → List ℕ → TraceKind → Type 0
IsFieldFault t field End = ⊥
IsFieldFault t field Count = ⊥
IsFieldFault t field Form = IsDecimal field → ⊥
IsFieldFault t field Range = IsDecimal field × (2 ^ width_of t ≤ digits_value 10 field)

-- the field is a number that the type's bits hold
abbrev pub IsRightField : Ty → List ℕ → Type 0
IsRightField t field = IsDecimal field × (digits_value 10 field < 2 ^ width_of t)

-- what is at fault in the leftmost field at fault
abbrev pub IsFieldsFault : List Ty → List (List ℕ) → TraceKind → Type 0
IsFieldsFault [] fields kind = ⊥
IsFieldsFault (t ∷ ts) [] kind = ⊥
IsFieldsFault (t ∷ ts) (field ∷ fields) kind =
    IsFieldFault t field kind ⊎ (IsRightField t field × IsFieldsFault ts fields kind)

-- The first that is at fault in a line: that it isn't ended, the number of its fields, its leftmost field at fault.
abbrev pub IsLineFault : List Ty → Line → TraceKind → Type 0
IsLineFault types line End = line.ended ≡ false
IsLineFault types line Count = (line.ended ≡ true) × (length (fields_of types line.text) ≢ length types)
IsLineFault types line kind = (line.ended ≡ true) × (length (fields_of types line.text) ≡ length types)
    × IsFieldsFault types (fields_of types line.text) kind

-- the line is the text of a row
abbrev pub IsRightLine : List Ty → Line → Type 0
IsRightLine types line = (line.ended ≡ true) × (row : List ℕ) × IsRow types row × (line.text ≡ row_text row)

pub record Fault : Type 0 where
  pub line : ℕ
  pub kind : TraceKind

-- the first line at fault, lines counted from 1, and the first that is at fault in it
pub record IsFirstFault (types : List Ty) (bytes : List ℕ) (fault : Fault) : Type 0 where
  pub before : List Line
  pub this : Line
  pub after : List Line
  pub lines : lines_of bytes ≡ before ++ (this ∷ after)
  pub right : AllByRecursion (IsRightLine types) before
  pub number : fault.line ≡ length before + 1
  pub faulty : IsLineFault types this fault.kind
