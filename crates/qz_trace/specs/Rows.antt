-- The text of rows of numbers.
use Rattle.std.specs.Prelude.{ℕ, ◌<◌, ◌^◌, ◌*◌, zero, suc, List, [], ◌∷◌, ◌++◌, take, drop, length, ◌≡◌}
use Rattle.std.specs.List.{flat_map}
use Rattle.std.specs.Fmt.{decimal}
use Rattle.qz_values.specs.declared.Ty.{Ty}
use Rattle.qz_values.specs.Types.{width_of}
use Rattle.qz_trace.specs.declared.traces.Trace.{Trace}

-- as many numbers as types, each one that its type's bits hold
abbrev pub IsRow : List Ty → List ℕ → Type 0
IsRow [] [] = Unit {0}
IsRow [] (n ∷ ns) = ⊥
IsRow (t ∷ ts) [] = ⊥
IsRow (t ∷ ts) (n ∷ ns) = (n < 2 ^ width_of t) × IsRow ts ns

-- a row's numbers in decimal, with one space between two
abbrev pub row_text : List ℕ → List ℕ
row_text [] = []
row_text (n ∷ ns) = decimal n ++ flat_map (λ m. 32 ∷ decimal m) ns

-- a line for each row, which LF ends
abbrev pub trace_text : List (List ℕ) → List ℕ
trace_text [] = []
trace_text (row ∷ rows) = row_text row ++ (10 ∷ trace_text rows)

-- so many rows of this width, out of their numbers in a row
abbrev pub rows_of : ℕ → ℕ → List ℕ → List (List ℕ)
rows_of width zero values = []
rows_of width (suc steps) values = take width values ∷ rows_of width steps (drop width values)

-- the rows of a trace
abbrev pub rows_in : Trace → List (List ℕ)
rows_in t = rows_of t.width t.steps t.values.items

-- there are as many numbers as the rows hold
abbrev pub IsWhole : Trace → Type 0
IsWhole t = length t.values.items ≡ t.width * t.steps
