-- The types of what operators give, and of the right sides that they are.
use Rattle.std.proofs.Common.{◌≡◌, ℕ, Bool, true, false, ◌&&◌, Some, None, refl, if◌then◌else◌}
use Rattle.qz_values.specs.declared.Ty.{Ty}
use Rattle.qz_values.specs.declared.Ty.TheVariants.{Bool as Truth, Bv}
use Rattle.qz_values.specs.declared.Know.TheVariants.{Unknown}
use Rattle.qz_values.specs.declared.Op1.{Op1}
use Rattle.qz_values.specs.declared.Op1.TheVariants.{Not, Invert}
use Rattle.qz_values.specs.declared.Op2.{Op2}
use Rattle.qz_values.specs.declared.Op2.TheVariants as op2
use Rattle.qz_values.specs.Types.{IsType}
use Rattle.qz_values.specs.Tables.{takes1, type1_of, type2_of, slice_type, concat_type}
use Rattle.qz_values.proofs.Given.{given1, given2}
use Rattle.qz_values.proofs.Typed.{typed2, typed_slice, typed_concat}
use Rattle.qz_verilog.specs.declared.nets.Ref.{Ref}
use Rattle.qz_verilog.specs.declared.nets.Rhs.TheVariants as rhs
use Rattle.qz_verilog.specs.Types.{NetTypes, net_type, right_side_type, has_sign, inverted_type}

-- what an operator gives is of a type that there is
pub result2 : (op : Op2) (s t u : Ty) → type2_of op s t ≡ Some u → IsType u
result2 op s t u h = (typed2 op s t u Unknown Unknown h tt tt).0

pub result_slice : (high low : ℕ) (s u : Ty) → slice_type s high low ≡ Some u → IsType u
result_slice high low s u h = (typed_slice high low s u Unknown h tt).0

pub result_concat : (s t u : Ty) → concat_type s t ≡ Some u → IsType u
result_concat s t u h = (typed_concat s t u Unknown Unknown h tt tt).0

-- the operator that `~` is of an operand that the operator takes
pub inverted_type_of : (op : Op1) (s : Ty) → type1_of op s ≡ Some s → inverted_type s ≡ Some s
inverted_type_of Not Truth h = refl
inverted_type_of Not (Bv w) h = absurd (cc)
inverted_type_of Invert Truth h = absurd (cc)
inverted_type_of Invert (Bv w) h = h

-- an operator that takes vectors has a sign
pub vector_sign : (op : Op2) (w : ℕ) (u : Ty) → type2_of op (Bv w) (Bv w) ≡ Some u → has_sign op ≡ true
vector_sign op2.Imp w u h = absurd (by (Rattle.qz_values.specs.Types.is_same_type (Bv w) (Bv w)) h)
  where
    by : (b : Bool) → (if b && false then Some Truth else None) ≡ Some u → ⊥
    by true h = cc
    by false h = cc
vector_sign op w u h = refl

-- a right side with two operands of these types
pub bin_typed : (types : NetTypes) (op : Op2) (s t u : Ty) (a b : Ref) → has_sign op ≡ true → type2_of op s t ≡ Some u → net_type types a ≡ Some s → net_type types b ≡ Some t →
    right_side_type types (rhs.Bin op a b) ≡ Some u
bin_typed types op s t u a b sign h first second = rw (sign, first, second) h

-- what bits of vectors give is of a type that there is
pub right_slice : (types : NetTypes) (a : Ref) (high low : ℕ) (u : Ty) → right_side_type types (rhs.Slice a high low) ≡ Some u → IsType u
right_slice types a high low u h =
    let p = given1 (λ t. slice_type t high low) (net_type types a) u h in
    result_slice high low p.s u p.gives

pub right_concat : (types : NetTypes) (a b : Ref) (u : Ty) → right_side_type types (rhs.Concat a b) ≡ Some u → IsType u
right_concat types a b u h =
    let p = given2 concat_type (net_type types a) (net_type types b) u h in
    result_concat p.s p.t u p.gives

-- the only type of an operand with a result of this type
pub one_operand : (op : Op1) (s u : Ty) → type1_of op s ≡ Some u → s ≡ u
one_operand op s u h = by (takes1 op s) h
  where
    by : (b : Bool) → (if b then Some s else None) ≡ Some u → s ≡ u
    by true h = cc
    by false h = absurd (cc)
