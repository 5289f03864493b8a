-- Sums and orders of numbers by their bits, the lowest first. That they are those of the numbers is what the
-- contracts of the operators say, which cite the operators on knowledge.
use Rattle.std.specs.Prelude.{Bool, cond, List, [], ◌∷◌}
use Rattle.qz_rails.specs.Bits.{exclusive}

-- whether the first number is less, or they are equal and it was less before
abbrev pub less_from : Bool → List Bool → List Bool → Bool
less_from so_far [] ys = so_far
less_from so_far (x ∷ xs) [] = so_far
less_from so_far (x ∷ xs) (y ∷ ys) = less_from (cond (exclusive x y) y so_far) xs ys

-- the bit of the sum of two bits and a carry
abbrev pub parity_of : Bool → Bool → Bool → Bool
parity_of a b c = exclusive (exclusive a b) c

-- the carry of two bits and a carry
abbrev pub most_of : Bool → Bool → Bool → Bool
most_of a b c = cond (exclusive a b) c b

-- the bits of the sum of two lists of bits and a carry
abbrev pub sums_from : Bool → List Bool → List Bool → List Bool
sums_from carry [] ys = []
sums_from carry (x ∷ xs) [] = []
sums_from carry (x ∷ xs) (y ∷ ys) = parity_of x y carry ∷ sums_from (most_of x y carry) xs ys
