-- More knowledge of an operand never makes less known of the result, and knowledge is ordered.
use Rattle.std.proofs.Common.{◌≡◌, ℕ, rules}
use Rattle.qz_values.specs.declared.Know.{Know}
use Rattle.qz_values.specs.declared.Op1.{Op1}
use Rattle.qz_values.specs.declared.Op2.{Op2}
use Rattle.qz_values.specs.Knowledge.{apply1_of, apply2_of, choose_of, bit_of, slice_of, concat_of}
use Rattle.qz_values.specs.Order.{Below, IsMonotone1, IsMonotone2, IsMonotone3}

pub Below-self : (a : Know) → Below a a
Below-self a = search rules

pub Below-trans : (a b c : Know) → Below a b → Below b c → Below a c
Below-trans a b c = search rules

pub same_from_Below : (a b : Know) → Below a b → Below b a → a ≡ b
same_from_Below a b = search rules

pub monotone1 : (op : Op1) → IsMonotone1 (apply1_of op)
monotone1 op = search rules

pub monotone2 : (op : Op2) → IsMonotone2 (apply2_of op)
monotone2 op = search rules

pub monotone_choose : IsMonotone3 choose_of
monotone_choose = search rules

pub monotone_bit : (i : ℕ) → IsMonotone1 (λ a. bit_of a i)
monotone_bit i = search rules

pub monotone_slice : (high low : ℕ) → IsMonotone1 (λ a. slice_of a high low)
monotone_slice high low = search rules

pub monotone_concat : IsMonotone2 concat_of
monotone_concat = search rules
