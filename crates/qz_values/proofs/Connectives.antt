-- The bool operators on knowledge, by the four things that can be known of a bool.
use Rattle.std.proofs.Common.{◌≡◌, ℕ, ◌<◌, arith, refl, inl, inr, ◌⊎◌}
use Rattle.qz_values.specs.declared.Ty.{Ty}
use Rattle.qz_values.specs.declared.Ty.TheVariants.{Bool as Truth}
use Rattle.qz_values.specs.declared.Value.{Value}
use Rattle.qz_values.specs.declared.Know.{Know}
use Rattle.qz_values.specs.declared.Know.TheVariants.{Unknown, Known, Clash}
use Rattle.qz_values.specs.Values.{yes, no, value_of, bits_of, type_of}
use Rattle.qz_values.specs.Knowledge.{both, either, opposite}
use Rattle.qz_values.specs.Fits.{IsOf, HasType}

below_two : (n : ℕ) → n < 2 → (n ≡ 0) ⊎ (n ≡ 1)
below_two n h = grind arith

value-cong : (s t : Ty) (m n : ℕ) → s ≡ t → m ≡ n → value_of s m ≡ value_of t n
value-cong s t m n e f = cc

pub yes_or_no : (v : Value) → IsOf Truth v → (v ≡ yes) ⊎ (v ≡ no)
yes_or_no v h = elim (below_two (bits_of v) h.fits) [
  | inl e ↦ inr (value-cong (type_of v) Truth (bits_of v) 0 h.typed e)
  | inr e ↦ inl (value-cong (type_of v) Truth (bits_of v) 1 h.typed e)
]

-- what can be known of a bool
pub data BoolKnow : Know → Type 0 where
  unknown : BoolKnow Unknown
  known_yes : BoolKnow (Known yes)
  known_no : BoolKnow (Known no)
  clash : BoolKnow Clash

pub bool_know : (k : Know) → HasType Truth k → BoolKnow k
bool_know Unknown h = unknown
bool_know (Known v) h = elim (yes_or_no v h) [ inl e ↦ rw e known_yes | inr e ↦ rw e known_no ]
bool_know Clash h = clash

both-yes-of : {k : Know} → BoolKnow k → both (Known yes) k ≡ k
both-yes-of unknown = refl
both-yes-of known_yes = refl
both-yes-of known_no = refl
both-yes-of clash = refl

yes-both-of : {k : Know} → BoolKnow k → both k (Known yes) ≡ k
yes-both-of unknown = refl
yes-both-of known_yes = refl
yes-both-of known_no = refl
yes-both-of clash = refl

either-no-of : {k : Know} → BoolKnow k → either (Known no) k ≡ k
either-no-of unknown = refl
either-no-of known_yes = refl
either-no-of known_no = refl
either-no-of clash = refl

no-either-of : {k : Know} → BoolKnow k → either k (Known no) ≡ k
no-either-of unknown = refl
no-either-of known_yes = refl
no-either-of known_no = refl
no-either-of clash = refl

twice-of : {k : Know} → BoolKnow k → opposite (opposite k) ≡ k
twice-of unknown = refl
twice-of known_yes = refl
twice-of known_no = refl
twice-of clash = refl

-- `true` is nothing to `&`, and `false` is nothing to `|`
pub both-yes_left : (k : Know) → HasType Truth k → both (Known yes) k ≡ k
both-yes_left k h = both-yes-of (bool_know k h)

pub both-yes_right : (k : Know) → HasType Truth k → both k (Known yes) ≡ k
both-yes_right k h = yes-both-of (bool_know k h)

pub either-no_left : (k : Know) → HasType Truth k → either (Known no) k ≡ k
either-no_left k h = either-no-of (bool_know k h)

pub either-no_right : (k : Know) → HasType Truth k → either k (Known no) ≡ k
either-no_right k h = no-either-of (bool_know k h)

pub opposite-opposite : (k : Know) → HasType Truth k → opposite (opposite k) ≡ k
opposite-opposite k h = twice-of (bool_know k h)
