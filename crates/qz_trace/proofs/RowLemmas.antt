-- The rows among values, one after the other.
use Rattle.std.proofs.Common.{arith, ◌≡◌, ℕ, zero, suc, ◌+◌, ◌*◌, ◌≤◌, List, [], ◌∷◌, ◌++◌, length, take, drop, refl, ap, ◌∙◌, length-drop, take_all}
use Rattle.std.proofs.lemmas.List.{take-append-le, drop-append-le}
use Rattle.qz_values.specs.declared.Ty.{Ty}
use Rattle.qz_trace.specs.Rows.{IsRow, rows_of}

-- a row has as many numbers as types
pub row_length : (ts : List Ty) (row : List ℕ) → IsRow ts row → length row ≡ length ts
row_length [] [] is = refl
row_length [] (n ∷ ns) is = absurd is
row_length (t ∷ ts) [] is = absurd is
row_length (t ∷ ts) (n ∷ ns) is = ap suc (row_length ts ns is.1)

pub times_suc : (a b : ℕ) → a * suc b ≡ a * b + a
times_suc a b = grind arith

pub times_one_more : (a b : ℕ) → a * (b + 1) ≡ a * b + a
times_one_more a b = grind arith

-- one row more
pub rows_more : (width steps : ℕ) (values row : List ℕ) → length values ≡ width * steps → length row ≡ width
    → rows_of width (suc steps) (values ++ row) ≡ rows_of width steps values ++ (row ∷ [])
rows_more width zero [] row all one = ap (λ l. l ∷ []) (take_all width row (omega (arith, one)))
rows_more width zero (v ∷ vs) row all one = let no : width * 0 ≡ 0 = grind arith in absurd (omega (arith, all, no))
rows_more width (suc steps) values row all one =
    let size = times_suc width steps in
    let within : width ≤ length values = omega (arith, all, size) in
    let less : length (drop width values) ≡ width * steps = length-drop width values ∙ omega (arith, all, size) in
    ap (λ l. l ∷ rows_of width (suc steps) (drop width (values ++ row))) (take-append-le width values row within)
    ∙ (ap (λ l. take width values ∷ rows_of width (suc steps) l) (drop-append-le width values row within)
    ∙ ap (λ l. take width values ∷ l) (rows_more width steps (drop width values) row less one))

pub rows_count : (width steps : ℕ) (values : List ℕ) → length (rows_of width steps values) ≡ steps
rows_count width zero values = refl
rows_count width (suc steps) values = ap suc (rows_count width steps (drop width values))
