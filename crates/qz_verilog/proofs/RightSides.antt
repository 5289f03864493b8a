-- The value of a right side depends on the nets that are declared alone, and is of the right side's type.
use Rattle.std.proofs.Common.{◌≡◌, Bool, true, false, cond, Option, Some, None, refl, sym, ap, ap₂, subst, ◌&&◌, inl, inr}
use Rattle.std.proofs.lemmas.Bool.{and_parts}
use Rattle.qz_values.specs.declared.Ty.{Ty}
use Rattle.qz_values.specs.declared.Ty.TheVariants as ty
use Rattle.qz_values.specs.declared.Value.{Value}
use Rattle.qz_values.specs.declared.Know.TheVariants.{Known}
use Rattle.qz_values.specs.declared.Op2.{Op2}
use Rattle.qz_values.specs.declared.Op2.TheVariants as op2
use Rattle.qz_values.specs.Types.{is_same_type}
use Rattle.qz_values.specs.Values.{type_of, is_yes}
use Rattle.qz_values.specs.Operators.{value1, value2, value_bit, value_slice, value_concat}
use Rattle.qz_values.specs.Knowledge.{apply2_of, choose_of}
use Rattle.qz_values.specs.Tables.{type2_of, takes2, gives2, choose_type, bit_type, slice_type, concat_type}
use Rattle.qz_values.specs.Fits.{IsOf, HasType}
use Rattle.qz_values.proofs.Given.{given1, given2, given3}
use Rattle.qz_values.proofs.Typed.{same-is_same_type, typed1, typed2, typed_choose, typed_bit, typed_slice, typed_concat}
use Rattle.qz_values.proofs.Connectives.{yes_or_no}
use Rattle.qz_verilog.specs.declared.nets.Ref.{Ref}
use Rattle.qz_verilog.specs.declared.nets.Rhs.{Rhs}
use Rattle.qz_verilog.specs.declared.nets.Rhs.TheVariants as rhs
use Rattle.qz_verilog.specs.Types.{NetTypes, net_type, is_value, inversion_of, inverted_type, has_sign, right_side_type}
use Rattle.qz_verilog.specs.Meaning.{Nets, value_at, inverted, right_side}
use Rattle.qz_verilog.proofs.ValidityLemmas.{is_value-IsValue}

pub if_some : (b : Bool) (o : Option Ty) (u : Ty) → cond b o None ≡ Some u → (b ≡ true) × (o ≡ Some u)
if_some true o u h = (refl, h)
if_some false o u h = absurd (cc)

-- values that agree at each net that is declared
abbrev pub Agree : NetTypes → Nets → Nets → Type 0
Agree types a b = (net : Ref) (t : Ty) → net_type types net ≡ Some t → value_at a net ≡ value_at b net

pub same_right : (types : NetTypes) (a b : Nets) → Agree types a b → (right : Rhs) (u : Ty) → right_side_type types right ≡ Some u →
    right_side a right ≡ right_side b right
same_right types a b agree (rhs.Const v) u h = refl
same_right types a b agree (rhs.Invert x) u h =
    let p = given1 inverted_type (net_type types x) u h in
    ap inverted (agree x p.s p.first)
same_right types a b agree (rhs.Bin op x y) u h =
    let p = given2 (type2_of op) (net_type types x) (net_type types y) u (if_some (has_sign op) _ u h).1 in
    ap₂ (λ v w. value2 op v w) (agree x p.s p.first) (agree y p.t p.second)
same_right types a b agree (rhs.Choose c x y) u h =
    let p = given3 choose_type (net_type types c) (net_type types x) (net_type types y) u h in
    rw (agree c p.r p.first, agree x p.s p.second, agree y p.t p.third) refl
same_right types a b agree (rhs.Bit x i) u h =
    let p = given1 (λ t. bit_type t i) (net_type types x) u h in
    ap (λ v. value_bit v i) (agree x p.s p.first)
same_right types a b agree (rhs.Slice x high low) u h =
    let p = given1 (λ t. slice_type t high low) (net_type types x) u h in
    ap (λ v. value_slice v high low) (agree x p.s p.first)
same_right types a b agree (rhs.Concat x y) u h =
    let p = given2 concat_type (net_type types x) (net_type types y) u h in
    ap₂ (λ v w. value_concat v w) (agree x p.s p.first) (agree y p.t p.second)

-- each net that is declared has a value of its type
abbrev pub AreTyped : NetTypes → Nets → Type 0
AreTyped types nets = (net : Ref) (t : Ty) → net_type types net ≡ Some t → IsOf t (value_at nets net)

-- operands of one type, where the operator takes them
same_types : (op : Op2) (s t u : Ty) → type2_of op s t ≡ Some u → s ≡ t
same_types op s t u h =
    same-is_same_type s t (and_parts (is_same_type s t) (takes2 op s) (if_some (is_same_type s t && takes2 op s) (Some (gives2 op s)) u h).0).0

-- where an operand alone decides, the operator gives the same of both
and_known : (t : Ty) (v w : Value) → IsOf t v → IsOf t w → apply2_of op2.And (Known v) (Known w) ≡ Known (value2 op2.And v w)
and_known ty.Bool v w f g =
    elim (yes_or_no v f) [
      | inl e ↦ elim (yes_or_no w g) [ inl k ↦ rw (e, k) refl | inr k ↦ rw (e, k) refl ]
      | inr e ↦ rw e refl
    ]
and_known (ty.Bv n) v w f g = rw (f.typed, g.typed) refl

or_known : (t : Ty) (v w : Value) → IsOf t v → IsOf t w → apply2_of op2.Or (Known v) (Known w) ≡ Known (value2 op2.Or v w)
or_known ty.Bool v w f g =
    elim (yes_or_no v f) [
      | inl e ↦ elim (yes_or_no w g) [ inl k ↦ rw (e, k) refl | inr k ↦ rw (e, k) refl ]
      | inr e ↦ elim (yes_or_no w g) [ inl k ↦ rw (e, k) refl | inr k ↦ rw (e, k) refl ]
    ]
or_known (ty.Bv n) v w f g = rw (f.typed, g.typed) refl

-- of two known values an operator that has a sign gives the value that it is of them
pub apply2-known : (op : Op2) (s t u : Ty) (v w : Value) → has_sign op ≡ true → type2_of op s t ≡ Some u → IsOf s v → IsOf t w →
    apply2_of op (Known v) (Known w) ≡ Known (value2 op v w)
apply2-known op2.And s t u v w sign h f g = and_known t v w (subst (λ x. IsOf x v) (same_types op2.And s t u h) f) g
apply2-known op2.Or s t u v w sign h f g = or_known t v w (subst (λ x. IsOf x v) (same_types op2.Or s t u h) f) g
apply2-known op2.Imp s t u v w sign h f g = absurd (cc)
apply2-known op s t u v w sign h f g = refl

pub choose-known : (c v w : Value) → choose_of (Known c) (Known v) (Known w) ≡ Known (cond (is_yes c) v w)
choose-known c v w = by (is_yes c) where
  by : (b : Bool) → cond b (Known v) (Known w) ≡ Known (cond b v w)
  by true = refl
  by false = refl

-- what `~` gives is of its operand's type
inverted_typed : (s u : Ty) (v : Value) → inverted_type s ≡ Some u → IsOf s v → IsOf u (inverted v)
inverted_typed s u v h f = subst (λ x. IsOf u (value1 (inversion_of x) v)) (sym f.typed) (typed1 (inversion_of s) s u (Known v) h f).2

pub typed_right : (types : NetTypes) (nets : Nets) → AreTyped types nets → (right : Rhs) (u : Ty) → right_side_type types right ≡ Some u →
    IsOf u (right_side nets right)
typed_right types nets typed (rhs.Const v) u h =
    let p = if_some (is_value v) (Some (type_of v)) u h in
    let is = (is_value-IsValue v).0 p.0 in
    let same : type_of v ≡ u = cc in
    record { typed = same; fits = rw (← same) is.fits }
typed_right types nets typed (rhs.Invert x) u h =
    let p = given1 inverted_type (net_type types x) u h in
    inverted_typed p.s u (value_at nets x) p.gives (typed x p.s p.first)
typed_right types nets typed (rhs.Bin op x y) u h =
    let q = if_some (has_sign op) _ u h in
    let p = given2 (type2_of op) (net_type types x) (net_type types y) u q.1 in
    let f = typed x p.s p.first in
    let g = typed y p.t p.second in
    subst (HasType u) (apply2-known op p.s p.t u _ _ q.0 p.gives f g)
    (typed2 op p.s p.t u (Known (value_at nets x)) (Known (value_at nets y)) p.gives f g).2
typed_right types nets typed (rhs.Choose c x y) u h =
    let p = given3 choose_type (net_type types c) (net_type types x) (net_type types y) u h in
    subst (HasType u) (choose-known (value_at nets c) (value_at nets x) (value_at nets y))
    (typed_choose p.r p.s p.t u (Known (value_at nets c)) (Known (value_at nets x)) (Known (value_at nets y)) p.gives
    (typed c p.r p.first) (typed x p.s p.second) (typed y p.t p.third)).2
typed_right types nets typed (rhs.Bit x i) u h =
    let p = given1 (λ t. bit_type t i) (net_type types x) u h in
    (typed_bit i p.s u (Known (value_at nets x)) p.gives (typed x p.s p.first)).2
typed_right types nets typed (rhs.Slice x high low) u h =
    let p = given1 (λ t. slice_type t high low) (net_type types x) u h in
    (typed_slice high low p.s u (Known (value_at nets x)) p.gives (typed x p.s p.first)).2
typed_right types nets typed (rhs.Concat x y) u h =
    let p = given2 concat_type (net_type types x) (net_type types y) u h in
    (typed_concat p.s p.t u (Known (value_at nets x)) (Known (value_at nets y)) p.gives (typed x p.s p.first) (typed y p.t p.second)).2
