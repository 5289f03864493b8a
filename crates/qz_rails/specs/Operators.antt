-- The bits that an operator with two operands gives, and where its result is known.
use Rattle.std.specs.Prelude.{Bool, true, false, cond, not, ◌&&◌, ◌||◌, List, [], ◌∷◌, map}
use Rattle.qz_dd.specs.declared.call.DdOp.TheVariants as dd
use Rattle.qz_dd.specs.Calls.{op_value}
use Rattle.qz_values.specs.declared.Ty.{Ty}
use Rattle.qz_values.specs.declared.Op2.{Op2}
use Rattle.qz_values.specs.declared.Op2.TheVariants.{And, Or, Xor, Imp, Add, Sub, Eq, Ne, Lt, Le, Gt, Ge}
use Rattle.qz_values.specs.Types.{is_bool}
use Rattle.qz_rails.specs.Bits.{lowest, pairwise, same_from}
use Rattle.qz_rails.specs.Sums.{less_from, sums_from}

-- a difference is the sum with the second number inverted and a carry
abbrev pub bits2 : Op2 → List Bool → List Bool → List Bool
bits2 And xs ys = pairwise (op_value dd.And) xs ys
bits2 Or xs ys = pairwise (op_value dd.Or) xs ys
bits2 Xor xs ys = pairwise (op_value dd.Xor) xs ys
bits2 Imp xs ys = pairwise (op_value dd.Or) (map not xs) ys
bits2 Add xs ys = sums_from false xs ys
bits2 Sub xs ys = sums_from true xs (map not ys)
bits2 Eq xs ys = same_from true xs ys ∷ []
bits2 Ne xs ys = not (same_from true xs ys) ∷ []
bits2 Lt xs ys = less_from false xs ys ∷ []
bits2 Le xs ys = less_from true xs ys ∷ []
bits2 Gt xs ys = less_from false ys xs ∷ []
bits2 Ge xs ys = less_from true ys xs ∷ []

-- whether one operand may decide alone
abbrev pub is_early : Op2 → Ty → Bool
is_early And t = is_bool t
is_early Or t = is_bool t
is_early Imp t = is_bool t
is_early op t = false

-- whether the left operand, where it is this bool, decides alone
abbrev pub left_bit : Op2 → Bool → Bool
left_bit Or x = x
left_bit op x = not x

-- whether the right one does
abbrev pub right_bit : Op2 → Bool → Bool
right_bit And y = not y
right_bit op y = y

-- whether the result is known of operands that are known, or not, to be these bools
abbrev pub known_early : Op2 → Bool → Bool → Bool → Bool → Bool
known_early op p x q y = (p && q) || ((p && left_bit op x) || (q && right_bit op y))

-- the same of operands of any type, by their bits
abbrev pub known_by : Op2 → Ty → Bool → List Bool → Bool → List Bool → Bool
known_by op t p xs q ys = cond (is_early op t) (known_early op p (lowest xs) q (lowest ys)) (p && q)
