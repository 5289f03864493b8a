-- What each operator gives where its operands are known in part.
use Rattle.std.specs.Prelude.{◌≡◌, ℕ, Bool, true, false, ◌||◌, if◌then◌else◌}
use Rattle.qz_values.specs.declared.Value.{Value}
use Rattle.qz_values.specs.declared.Know.{Know}
use Rattle.qz_values.specs.declared.Know.TheVariants.{Unknown, Known, Clash}
use Rattle.qz_values.specs.declared.Op1.{Op1}
use Rattle.qz_values.specs.declared.Op1.TheVariants.{Not}
use Rattle.qz_values.specs.declared.Op2.{Op2}
use Rattle.qz_values.specs.declared.Op2.TheVariants.{And, Or, Imp}
use Rattle.qz_values.specs.Values.{yes, no, is_yes, is_no}
use Rattle.qz_values.specs.Operators.{value1, value2, value_bit, value_slice, value_concat}

-- whether it is known to be the bool `true`, or `false`
abbrev pub knows_yes : Know → Bool
knows_yes Unknown = false
knows_yes (Known v) = is_yes v
knows_yes Clash = false

abbrev pub knows_no : Know → Bool
knows_no Unknown = false
knows_no (Known v) = is_no v
knows_no Clash = false

abbrev pub IsTrueKnow : Know → Type 0
IsTrueKnow k = k ≡ Known yes

abbrev pub apply1_of : Op1 → Know → Know
apply1_of op Unknown = Unknown
apply1_of op (Known v) = Known (value1 op v)
apply1_of op Clash = Clash

-- whether the left operand alone decides what a bool operator gives
abbrev pub left_decides : Op2 → Know → Bool
left_decides And k = knows_no k
left_decides Or k = knows_yes k
left_decides Imp k = knows_no k
left_decides op k = false

-- whether the right one alone does
abbrev pub right_decides : Op2 → Know → Bool
right_decides And k = knows_no k
right_decides Or k = knows_yes k
right_decides Imp k = knows_yes k
right_decides op k = false

-- what is then given: `false` by `&`, `true` by `|` and `->`
abbrev pub decided : Op2 → Value
decided And = no
decided op = yes

abbrev pub is_clash : Know → Bool
is_clash Unknown = false
is_clash (Known v) = false
is_clash Clash = true

-- what two operands give of which neither decides alone
abbrev pub from_both : (Value → Value → Value) → Know → Know → Know
from_both f (Known v) (Known w) = Known (f v w)
from_both f Clash b = Clash
from_both f a Clash = Clash
from_both f a b = Unknown

abbrev pub apply2_of : Op2 → Know → Know → Know
apply2_of op a b =
    (if is_clash a || is_clash b then Clash else
    (if left_decides op a || right_decides op b then Known (decided op) else from_both (value2 op) a b))

-- what is known of the side that the condition chooses, whatever is known of the other
abbrev pub choose_of : Know → Know → Know → Know
choose_of Unknown a b = Unknown
choose_of (Known c) a b = (if is_yes c then a else b)
choose_of Clash a b = Clash

abbrev pub bit_of : Know → ℕ → Know
bit_of Unknown i = Unknown
bit_of (Known v) i = Known (value_bit v i)
bit_of Clash i = Clash

abbrev pub slice_of : Know → ℕ → ℕ → Know
slice_of Unknown high low = Unknown
slice_of (Known v) high low = Known (value_slice v high low)
slice_of Clash high low = Clash

abbrev pub concat_of : Know → Know → Know
concat_of a b = from_both value_concat a b

-- the bool operators `&`, `|` and `!`
abbrev pub both : Know → Know → Know
both a b = apply2_of And a b

abbrev pub either : Know → Know → Know
either a b = apply2_of Or a b

abbrev pub opposite : Know → Know
opposite a = apply1_of Not a
