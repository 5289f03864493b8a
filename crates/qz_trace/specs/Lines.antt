-- The lines of a text and the fields of a line.
use Rattle.std.specs.Prelude.{ℕ, Bool, true, false, ◌==◌, List, [], ◌∷◌, cond}
use Rattle.qz_values.specs.declared.Ty.{Ty}

-- puts a byte before the first of the parts
abbrev pub begin_with : ℕ → List (List ℕ) → List (List ℕ)
begin_with b [] = (b ∷ []) ∷ []
begin_with b (part ∷ parts) = (b ∷ part) ∷ parts

-- the parts between the bytes that separate: one more than there are of these
abbrev pub parts_of : ℕ → List ℕ → List (List ℕ)
parts_of separator [] = [] ∷ []
parts_of separator (b ∷ bs) =
    cond (b == separator) ([] ∷ parts_of separator bs) (begin_with b (parts_of separator bs))

-- a line without its end, and whether it has one
pub record Line : Type 0 where
  pub text : List ℕ
  pub ended : Bool

abbrev pub ended_line : List ℕ → Line
ended_line text = record { text = text; ended = true }

-- what follows the last end of a line is one more line, unless nothing follows
abbrev pub last_line : List ℕ → List Line
last_line [] = []
last_line (b ∷ bs) = record { text = b ∷ bs; ended = false } ∷ []

-- each part but the last is a line that has its end
abbrev pub lines_from : List ℕ → List (List ℕ) → List Line
lines_from part [] = last_line part
lines_from part (next ∷ parts) = ended_line part ∷ lines_from next parts

abbrev pub lines_in : List (List ℕ) → List Line
lines_in [] = []
lines_in (part ∷ parts) = lines_from part parts

-- the lines of a text, each of which LF ends but maybe the last
abbrev pub lines_of : List ℕ → List Line
lines_of bytes = lines_in (parts_of 10 bytes)

-- The fields of a line, between its spaces. Where a line has a value for none, an empty one has no field.
abbrev pub fields_of : List Ty → List ℕ → List (List ℕ)
fields_of [] [] = []
fields_of [] (b ∷ bs) = parts_of 32 (b ∷ bs)
fields_of (t ∷ ts) line = parts_of 32 line
