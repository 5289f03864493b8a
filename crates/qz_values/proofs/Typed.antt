-- Operands of types that an operator takes may be given to it, and its result is of the type that the tables name.
use Rattle.std.proofs.Common.{◌≡◌, ℕ, ◌+◌, ◌≤◌, ◌^◌, Bool, true, false, ◌&&◌, ◌||◌, cond, Some, None, refl, sym, ◌∙◌, ap, inl, inr, arith, rules}
use Rattle.std.proofs.lemmas.Bool.{and_parts, or_cases, eqb-true, leb-true}
use Rattle.std.proofs.lemmas.Nat.{pow_pos, mod_below}
use Rattle.qz_values.specs.declared.Ty.{Ty}
use Rattle.qz_values.specs.declared.Ty.TheVariants.{Bool as Truth, Bv}
use Rattle.qz_values.specs.declared.Value.{Value}
use Rattle.qz_values.specs.declared.Know.{Know}
use Rattle.qz_values.specs.declared.Know.TheVariants.{Unknown, Known, Clash}
use Rattle.qz_values.specs.declared.Op1.{Op1}
use Rattle.qz_values.specs.declared.Op2.{Op2}
use Rattle.qz_values.specs.declared.Op2.TheVariants.{And, Or, Xor, Imp, Add, Sub, Eq, Ne, Lt, Le, Gt, Ge}
use Rattle.qz_values.specs.Types.{width_of, IsType, is_type, is_bool, is_vector, is_same_type}
use Rattle.qz_values.specs.Values.{type_of, wrapped, truth_of, is_yes}
use Rattle.qz_values.specs.Tables.{type1_of, bit_type, slice_type, takes2, gives2, type2_of, choose_type, has_room, concat_type}
use Rattle.qz_values.specs.Operators.{value2, value_concat}
use Rattle.qz_values.specs.Knowledge.{apply2_of, left_decides, right_decides, decided, from_both, is_clash, knows_yes, knows_no, choose_of, concat_of, apply1_of, bit_of, slice_of}
use Rattle.qz_values.specs.Fits.{IsOf, HasType, allows, allows_pair, Fits2, FitsChoose, Fits1, FitsBit, FitsSlice, FitsConcat, IsTyped1, IsTyped2, IsTyped3}
use Rattle.qz_values.proofs.Widths.{IsType-is_type, IsType-is_vector}

pub same-is_same_type : (s t : Ty) → is_same_type s t ≡ true → s ≡ t
same-is_same_type Truth Truth h = refl
same-is_same_type Truth (Bv w) h = cc
same-is_same_type (Bv v) Truth h = cc
same-is_same_type (Bv v) (Bv w) h = ap Bv (eqb-true v w h)

pub is_same_type-self : (t : Ty) → is_same_type t t ≡ true
is_same_type-self Truth = refl
is_same_type-self (Bv w) = grind arith

-- what the branch that answers says
if_some : (b : Bool) (t u : Ty) → cond b (Some t) None ≡ Some u → (b ≡ true) × (t ≡ u)
if_some true t u h = (refl, cc)
if_some false t u h = cc

pub IsOf-wrapped : (t : Ty) (n : ℕ) → IsOf t (wrapped t n)
IsOf-wrapped t n = record { typed = refl; fits = mod_below n (2 ^ width_of t) (pow_pos (width_of t)) }

pub IsOf-truth_of : (b : Bool) → IsOf Truth (truth_of b)
IsOf-truth_of true = record { typed = refl; fits = omega arith }
IsOf-truth_of false = record { typed = refl; fits = omega arith }

-- a test that a type passes is passed by what is known of it
pub allows-typed : (test : Ty → Bool) (t : Ty) (a : Know) → HasType t a → test t ≡ true → allows test a ≡ true
allows-typed test t Unknown h e = refl
allows-typed test t (Known v) h e = ap test h.typed ∙ e
allows-typed test t Clash h e = refl

pub allows_pair-typed : (test : Ty → Ty → Bool) (s t : Ty) (a b : Know) → HasType s a → HasType t b →
    test s t ≡ true → allows_pair test a b ≡ true
allows_pair-typed test s t (Known v) (Known w) h k e = rw (h.typed, k.typed) e
allows_pair-typed test s t (Known v) Unknown h k e = refl
allows_pair-typed test s t (Known v) Clash h k e = refl
allows_pair-typed test s t Unknown b h k e = refl
allows_pair-typed test s t Clash b h k e = refl

IsType-gives2 : (op : Op2) (t : Ty) → takes2 op t ≡ true → IsType (gives2 op t)
IsType-gives2 And t h = IsType-is_type t h
IsType-gives2 Or t h = IsType-is_type t h
IsType-gives2 Xor t h = IsType-is_type t h
IsType-gives2 Add t h = IsType-is_vector t h
IsType-gives2 Sub t h = IsType-is_vector t h
IsType-gives2 op t h = record { at_least_1 = omega arith; at_most_64 = omega arith }

IsOf-value2 : (op : Op2) (t : Ty) (v w : Value) → type_of v ≡ t → IsOf (gives2 op t) (value2 op v w)
IsOf-value2 And t v w e = rw (← e) (IsOf-wrapped (type_of v) _)
IsOf-value2 Or t v w e = rw (← e) (IsOf-wrapped (type_of v) _)
IsOf-value2 Xor t v w e = rw (← e) (IsOf-wrapped (type_of v) _)
IsOf-value2 Imp t v w e = IsOf-truth_of _
IsOf-value2 Add t v w e = rw (← e) (IsOf-wrapped (type_of v) _)
IsOf-value2 Sub t v w e = rw (← e) (IsOf-wrapped (type_of v) _)
IsOf-value2 Eq t v w e = IsOf-truth_of _
IsOf-value2 Ne t v w e = IsOf-truth_of _
IsOf-value2 Lt t v w e = IsOf-truth_of _
IsOf-value2 Le t v w e = IsOf-truth_of _
IsOf-value2 Gt t v w e = IsOf-truth_of _
IsOf-value2 Ge t v w e = IsOf-truth_of _

bool-is_bool : (t : Ty) → is_bool t ≡ true → t ≡ Truth
bool-is_bool Truth h = refl
bool-is_bool (Bv w) h = cc

bool-knows_yes : (t : Ty) (a : Know) → HasType t a → knows_yes a ≡ true → t ≡ Truth
bool-knows_yes t (Known v) h e = sym h.typed ∙ bool-is_bool (type_of v) (and_parts _ _ e).0
bool-knows_yes t Unknown h e = cc
bool-knows_yes t Clash h e = cc

bool-knows_no : (t : Ty) (a : Know) → HasType t a → knows_no a ≡ true → t ≡ Truth
bool-knows_no t (Known v) h e = sym h.typed ∙ bool-is_bool (type_of v) (and_parts _ _ e).0
bool-knows_no t Unknown h e = cc
bool-knows_no t Clash h e = cc

-- an operand decides alone only where the result is a bool
bool-left_decides : (op : Op2) (t : Ty) (a : Know) → HasType t a → left_decides op a ≡ true → gives2 op t ≡ Truth
bool-left_decides And t a h e = bool-knows_no t a h e
bool-left_decides Or t a h e = bool-knows_yes t a h e
bool-left_decides Imp t a h e = refl
bool-left_decides op t a h e = cc

bool-right_decides : (op : Op2) (t : Ty) (a : Know) → HasType t a → right_decides op a ≡ true → gives2 op t ≡ Truth
bool-right_decides And t a h e = bool-knows_no t a h e
bool-right_decides Or t a h e = bool-knows_yes t a h e
bool-right_decides Imp t a h e = refl
bool-right_decides op t a h e = cc

IsOf-decided : (op : Op2) (u : Ty) → u ≡ Truth → IsOf u (decided op)
IsOf-decided And u e = rw e (IsOf-truth_of false)
IsOf-decided op u e = rw e (IsOf-truth_of true)

HasType-from_both : (f : Value → Value → Value) (s t u : Ty) (a b : Know) →
    ((v w : Value) → IsOf s v → IsOf t w → IsOf u (f v w)) → HasType s a → HasType t b → HasType u (from_both f a b)
HasType-from_both f s t u (Known v) (Known w) k h g = k v w h g
HasType-from_both f s t u (Known v) Unknown k h g = tt
HasType-from_both f s t u (Known v) Clash k h g = tt
HasType-from_both f s t u Unknown (Known w) k h g = tt
HasType-from_both f s t u Unknown Unknown k h g = tt
HasType-from_both f s t u Unknown Clash k h g = tt
HasType-from_both f s t u Clash b k h g = tt

HasType-cond : (b : Bool) (t : Ty) (x y : Know) → (b ≡ true → HasType t x) → HasType t y → HasType t (cond b x y)
HasType-cond true t x y h k = h refl
HasType-cond false t x y h k = k

HasType-apply2 : (op : Op2) (t : Ty) (a b : Know) → HasType t a → HasType t b → HasType (gives2 op t) (apply2_of op a b)
HasType-apply2 op t a b h k =
    HasType-cond (is_clash a || is_clash b) (gives2 op t) Clash _ (λ e. tt)
    (HasType-cond (left_decides op a || right_decides op b) (gives2 op t) (Known (decided op)) _
    (λ e. elim (or_cases (left_decides op a) (right_decides op b) e) [
      | inl x ↦ IsOf-decided op (gives2 op t) (bool-left_decides op t a h x)
      | inr y ↦ IsOf-decided op (gives2 op t) (bool-right_decides op t b k y)
    ])
    (HasType-from_both (value2 op) t t (gives2 op t) a b (λ v w x y. IsOf-value2 op t v w x.typed) h k))

pub typed2 : (op : Op2) → IsTyped2 (type2_of op) (Fits2 op) (apply2_of op)
typed2 op s t u a b e h k =
    let found = if_some (is_same_type s t && takes2 op s) (gives2 op s) u e in
    let parts = and_parts (is_same_type s t) (takes2 op s) found.0 in
    let same = same-is_same_type s t parts.0 in
    let g : HasType s b = rw same k in (
      rw (← found.1) (IsType-gives2 op s parts.1),
      record {
        left = allows-typed (takes2 op) s a h parts.1;
        right = allows-typed (takes2 op) s b g parts.1;
        alike = allows_pair-typed is_same_type s t a b h k parts.0;
      },
      rw (← found.1) (HasType-apply2 op s a b h g),
    )

HasType-choose : (t : Ty) (c a b : Know) → HasType t a → HasType t b → HasType t (choose_of c a b)
HasType-choose t Unknown a b h k = tt
HasType-choose t (Known v) a b h k = HasType-cond (is_yes v) t a b (λ e. h) k
HasType-choose t Clash a b h k = tt

pub typed_choose : IsTyped3 choose_type FitsChoose choose_of
typed_choose r s t u c a b e h k l =
    let found = if_some (is_bool r && (is_same_type s t && is_type s)) s u e in
    let parts = and_parts (is_bool r) (is_same_type s t && is_type s) found.0 in
    let sides = and_parts (is_same_type s t) (is_type s) parts.1 in
    let same = same-is_same_type s t sides.0 in
    let g : HasType s b = rw same l in (
      rw (← found.1) (IsType-is_type s sides.1),
      record {
        condition = allows-typed is_bool r c h parts.0;
        first = allows-typed is_type s a k sides.1;
        second = allows-typed is_type s b g sides.1;
        alike = allows_pair-typed is_same_type s t a b k l sides.0;
      },
      rw (← found.1) (HasType-choose s c a b k g),
    )

IsOf-value_concat : (s t : Ty) (v w : Value) → IsOf s v → IsOf t w → IsOf (Bv (width_of s + width_of t)) (value_concat v w)
IsOf-value_concat s t v w h k = rw (← h.typed, ← k.typed) (IsOf-wrapped (Bv (width_of (type_of v) + width_of (type_of w))) _)

pub typed_concat : IsTyped2 concat_type FitsConcat concat_of
typed_concat s t u a b e h k =
    let found = if_some (is_vector s && (is_vector t && has_room s t)) (Bv (width_of s + width_of t)) u e in
    let parts = and_parts (is_vector s) (is_vector t && has_room s t) found.0 in
    let rest = and_parts (is_vector t) (has_room s t) parts.1 in
    let room : width_of s + width_of t ≤ 64 = leb-true _ _ rest.1 in
    let wide : IsType s = IsType-is_vector s parts.0 in (
      rw (← found.1) (record { at_least_1 = omega arith; at_most_64 = room }),
      record {
        left = allows-typed is_vector s a h parts.0;
        right = allows-typed is_vector t b k rest.0;
        room = allows_pair-typed has_room s t a b h k rest.1;
      },
      rw (← found.1) (HasType-from_both value_concat s t (Bv (width_of s + width_of t)) a b (IsOf-value_concat s t) h k),
    )

pub typed1 : (op : Op1) → IsTyped1 (type1_of op) (Fits1 op) (apply1_of op)
typed1 op = search rules

pub typed_bit : (i : ℕ) → IsTyped1 (λ t. bit_type t i) (λ a. FitsBit a i) (λ a. bit_of a i)
typed_bit i = search rules

pub typed_slice : (high low : ℕ) → IsTyped1 (λ t. slice_type t high low) (λ a. FitsSlice a high low) (λ a. slice_of a high low)
typed_slice high low = search rules
