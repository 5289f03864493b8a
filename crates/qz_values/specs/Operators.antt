-- What each operator gives of values: whole numbers, modulo 2 to the power of the result's width.
use Rattle.std.specs.Prelude.{ℕ, ◌+◌, ◌-◌, ◌*◌, ◌/◌, ◌%◌, ◌^◌, ◌==◌, ◌||◌, not, nat_lt, nat_le, bit_and, bit_or, bit_xor}
use Rattle.qz_values.specs.declared.Ty.TheVariants.{Bool as Truth, Bv}
use Rattle.qz_values.specs.declared.Value.{Value}
use Rattle.qz_values.specs.declared.Op1.{Op1}
use Rattle.qz_values.specs.declared.Op1.TheVariants.{Not, Invert}
use Rattle.qz_values.specs.declared.Op2.{Op2}
use Rattle.qz_values.specs.declared.Op2.TheVariants.{And, Or, Xor, Imp, Add, Sub, Eq, Ne, Lt, Le, Gt, Ge}
use Rattle.qz_values.specs.Types.{width_of}
use Rattle.qz_values.specs.Values.{type_of, bits_of, wrapped, truth_of, is_yes, is_no}

-- `~` takes the number from the largest of its width, which inverts each bit
abbrev pub value1 : Op1 → Value → Value
value1 Not v = truth_of (bits_of v == 0)
value1 Invert v = wrapped (type_of v) (2 ^ width_of (type_of v) - 1 - bits_of v % 2 ^ width_of (type_of v))

-- the operands are of one type; the orders are those of the numbers, so no vector is negative
abbrev pub value2 : Op2 → Value → Value → Value
value2 And v w = wrapped (type_of v) (bit_and (bits_of v) (bits_of w))
value2 Or v w = wrapped (type_of v) (bit_or (bits_of v) (bits_of w))
value2 Xor v w = wrapped (type_of v) (bit_xor (bits_of v) (bits_of w))
value2 Imp v w = truth_of (is_no v || is_yes w)
value2 Add v w = wrapped (type_of v) (bits_of v + bits_of w)
value2 Sub v w = wrapped (type_of v) (bits_of v + (2 ^ width_of (type_of v) - bits_of w % 2 ^ width_of (type_of v)))
value2 Eq v w = truth_of (bits_of v == bits_of w)
value2 Ne v w = truth_of (not (bits_of v == bits_of w))
value2 Lt v w = truth_of (nat_lt (bits_of v) (bits_of w))
value2 Le v w = truth_of (nat_le (bits_of v) (bits_of w))
value2 Gt v w = truth_of (nat_lt (bits_of w) (bits_of v))
value2 Ge v w = truth_of (nat_le (bits_of w) (bits_of v))

-- bit `i` of the number, of which bit 0 is the lowest
abbrev pub value_bit : Value → ℕ → Value
value_bit v i = wrapped Truth (bits_of v / 2 ^ i)

-- the bits from `low` to `high`, both of them included
abbrev pub value_slice : Value → ℕ → ℕ → Value
value_slice v high low = wrapped (Bv (high - low + 1)) (bits_of v / 2 ^ low)

-- the bits of `v` above those of `w`
abbrev pub value_concat : Value → Value → Value
value_concat v w =
    wrapped (Bv (width_of (type_of v) + width_of (type_of w))) (bits_of v * 2 ^ width_of (type_of w) + bits_of w)
