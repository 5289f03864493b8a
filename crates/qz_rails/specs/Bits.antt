-- Lists of bits, the lowest first, and the numbers that they stand for.
use Rattle.std.specs.Prelude.{ℕ, zero, suc, ◌+◌, ◌*◌, ◌/◌, ◌%◌, ◌==◌, Bool, true, false, cond, not, ◌&&◌, List, [], ◌∷◌, map, slice_index_or}
use Rattle.qz_dd.specs.declared.node.DdId.{DdId}
use Rattle.qz_dd.specs.Tables.{Reading}

abbrev pub digit : Bool → ℕ
digit true = 1
digit false = 0

abbrev pub number_of : List Bool → ℕ
number_of [] = 0
number_of (b ∷ bs) = number_of bs * 2 + digit b

-- the lowest bits of a number, so many of them
abbrev pub digits_of : ℕ → ℕ → List Bool
digits_of zero n = []
digits_of (suc width) n = (n % 2 == 1) ∷ digits_of width (n / 2)

-- bit 0, and false where there is none
abbrev pub lowest : List Bool → Bool
lowest [] = false
lowest (x ∷ xs) = x

-- the values of these numbers of a table
abbrev pub bits_in : Reading → List DdId → List Bool
bits_in reading = map (λ (d : DdId). reading.values d.0)

-- the values of these variables
abbrev pub variables_in : Reading → List ℕ → List Bool
variables_in reading = map (λ (v : ℕ). slice_index_or reading.bits v false)

abbrev pub exclusive : Bool → Bool → Bool
exclusive a b = cond a (not b) b

-- what f gives of each two bits, as far as both lists go
abbrev pub pairwise : (Bool → Bool → Bool) → List Bool → List Bool → List Bool
pairwise f [] ys = []
pairwise f (x ∷ xs) [] = []
pairwise f (x ∷ xs) (y ∷ ys) = f x y ∷ pairwise f xs ys

-- bit by bit the side that the condition chooses
abbrev pub choices : Bool → List Bool → List Bool → List Bool
choices c xs ys = pairwise (λ x y. cond c x y) xs ys

-- whether all bits are equal, and what came before was
abbrev pub same_from : Bool → List Bool → List Bool → Bool
same_from so_far [] ys = so_far
same_from so_far (x ∷ xs) [] = so_far
same_from so_far (x ∷ xs) (y ∷ ys) = same_from (so_far && not (exclusive x y)) xs ys
