-- What is known of a net whose operands have knowledge of their types is of its type.
use Rattle.std.proofs.Common.{◌≡◌, ℕ, Bool, true, false, cond, Option, Some, None, refl, ap, ap₂, subst}
use Rattle.std.proofs.lemmas.Bool.{and_parts, ltb-true}
use Rattle.std.specs.Option.{option_and_then}
use Rattle.qz_values.specs.declared.Ty.{Ty}
use Rattle.qz_values.specs.declared.Value.{Value}
use Rattle.qz_values.specs.declared.Know.{Know}
use Rattle.qz_values.specs.declared.Know.TheVariants.{Known}
use Rattle.qz_values.specs.declared.Op1.{Op1}
use Rattle.qz_values.specs.declared.Op2.{Op2}
use Rattle.qz_values.specs.Values.{type_of}
use Rattle.qz_values.specs.Knowledge.{apply1_of, apply2_of, bit_of, slice_of, concat_of}
use Rattle.qz_values.specs.Tables.{type1_of, type2_of, choose_type, bit_type, slice_type, concat_type}
use Rattle.qz_values.specs.Fits.{HasType, Fits1, Fits2, FitsChoose, FitsBit, FitsSlice, FitsConcat}
use Rattle.qz_values.proofs.Given.{given1, given2, given3}
use Rattle.qz_values.proofs.Typed.{typed1, typed2, typed_choose, typed_bit, typed_slice, typed_concat}
use Rattle.qz_nets.specs.declared.net.Net.{Net}
use Rattle.qz_nets.specs.declared.net.Net.TheVariants as net
use Rattle.qz_nets.specs.declared.net.NetId.{NetId}
use Rattle.qz_nets.specs.Nets.{constant_type, net_type, net_know}

if_some : (b : Bool) (t u : Ty) → cond b (Some t) None ≡ Some u → (b ≡ true) × (t ≡ u)
if_some true t u h = (refl, cc)
if_some false t u h = absurd (cc)

pub typed_constant : (v : Value) (u : Ty) → constant_type v ≡ Some u → HasType u (Known v)
typed_constant v u h =
    let parts = if_some _ (type_of v) u h in
    let fits = ltb-true _ _ (and_parts _ _ parts.0).1 in
    record { typed = parts.1; fits = rw (← parts.1) fits }

-- what is known of a net of a type, whose operands have knowledge of their types
module _ (types : ℕ → Option Ty) (leaf know : ℕ → Know) (typed : (n : ℕ) (ty : Ty) → types n ≡ Some ty → HasType ty (know n)) where
  pub fits_un : (op : Op1) (a : NetId) (u : Ty) → net_type types (net.Un op a) ≡ Some u → Fits1 op (know a.0)
  fits_un op a u h = let p = given1 (type1_of op) (types a.0) u h in (typed1 op p.s u (know a.0) p.gives (typed a.0 p.s p.first)).1

  pub fits_bin : (op : Op2) (a b : NetId) (u : Ty) → net_type types (net.Bin op a b) ≡ Some u → Fits2 op (know a.0) (know b.0)
  fits_bin op a b u h =
      let p = given2 (type2_of op) (types a.0) (types b.0) u h in
      (typed2 op p.s p.t u (know a.0) (know b.0) p.gives (typed a.0 p.s p.first) (typed b.0 p.t p.second)).1

  pub fits_choose : (c a b : NetId) (u : Ty) → net_type types (net.Choose c a b) ≡ Some u → FitsChoose (know c.0) (know a.0) (know b.0)
  fits_choose c a b u h =
      let p = given3 choose_type (types c.0) (types a.0) (types b.0) u h in
      (typed_choose p.r p.s p.t u (know c.0) (know a.0) (know b.0) p.gives
      (typed c.0 p.r p.first) (typed a.0 p.s p.second) (typed b.0 p.t p.third)).1

  pub fits_bit : (a : NetId) (i : ℕ) (u : Ty) → net_type types (net.Bit a i) ≡ Some u → FitsBit (know a.0) i
  fits_bit a i u h =
      let p = given1 (λ t. bit_type t i) (types a.0) u h in
      (typed_bit i p.s u (know a.0) p.gives (typed a.0 p.s p.first)).1

  pub fits_slice : (a : NetId) (high low : ℕ) (u : Ty) → net_type types (net.Slice a high low) ≡ Some u → FitsSlice (know a.0) high low
  fits_slice a high low u h =
      let p = given1 (λ t. slice_type t high low) (types a.0) u h in
      (typed_slice high low p.s u (know a.0) p.gives (typed a.0 p.s p.first)).1

  pub fits_concat : (a b : NetId) (u : Ty) → net_type types (net.Concat a b) ≡ Some u → FitsConcat (know a.0) (know b.0)
  fits_concat a b u h =
      let p = given2 concat_type (types a.0) (types b.0) u h in
      (typed_concat p.s p.t u (know a.0) (know b.0) p.gives (typed a.0 p.s p.first) (typed b.0 p.t p.second)).1

  pub net_typed : (n : Net) (u : Ty) → ((number : ℕ) (ty : Ty) → n ≡ net.Leaf number ty → HasType ty (leaf number)) →
      net_type types n ≡ Some u → HasType u (net_know leaf know n)
  net_typed (net.Const v) u leaves h = typed_constant v u h
  net_typed (net.Leaf number ty) u leaves h = let parts = if_some _ ty u h in subst (λ t. HasType t (leaf number)) parts.1 (leaves number ty refl)
  net_typed (net.Un op a) u leaves h = let p = given1 (type1_of op) (types a.0) u h in (typed1 op p.s u (know a.0) p.gives (typed a.0 p.s p.first)).2
  net_typed (net.Bin op a b) u leaves h =
      let p = given2 (type2_of op) (types a.0) (types b.0) u h in
      (typed2 op p.s p.t u (know a.0) (know b.0) p.gives (typed a.0 p.s p.first) (typed b.0 p.t p.second)).2
  net_typed (net.Choose c a b) u leaves h =
      let p = given3 choose_type (types c.0) (types a.0) (types b.0) u h in
      (typed_choose p.r p.s p.t u (know c.0) (know a.0) (know b.0) p.gives
      (typed c.0 p.r p.first) (typed a.0 p.s p.second) (typed b.0 p.t p.third)).2
  net_typed (net.Bit a i) u leaves h =
      let p = given1 (λ t. bit_type t i) (types a.0) u h in
      (typed_bit i p.s u (know a.0) p.gives (typed a.0 p.s p.first)).2
  net_typed (net.Slice a high low) u leaves h =
      let p = given1 (λ t. slice_type t high low) (types a.0) u h in
      (typed_slice high low p.s u (know a.0) p.gives (typed a.0 p.s p.first)).2
  net_typed (net.Concat a b) u leaves h =
      let p = given2 concat_type (types a.0) (types b.0) u h in
      (typed_concat p.s p.t u (know a.0) (know b.0) p.gives (typed a.0 p.s p.first) (typed b.0 p.t p.second)).2

-- what is known of a net depends on its leaf and its operands alone
module _ (types : ℕ → Option Ty) (leaf other_leaf know other : ℕ → Know) (same : (n : ℕ) (ty : Ty) → types n ≡ Some ty → know n ≡ other n) where
  pub net_same : (n : Net) (u : Ty) → ((number : ℕ) (ty : Ty) → n ≡ net.Leaf number ty → leaf number ≡ other_leaf number) →
      net_type types n ≡ Some u → net_know leaf know n ≡ net_know other_leaf other n
  net_same (net.Const v) u leaves h = refl
  net_same (net.Leaf number ty) u leaves h = leaves number ty refl
  net_same (net.Un op a) u leaves h = let p = given1 (type1_of op) (types a.0) u h in ap (apply1_of op) (same a.0 p.s p.first)
  net_same (net.Bin op a b) u leaves h =
      let p = given2 (type2_of op) (types a.0) (types b.0) u h in
      ap₂ (apply2_of op) (same a.0 p.s p.first) (same b.0 p.t p.second)
  net_same (net.Choose c a b) u leaves h =
      let p = given3 choose_type (types c.0) (types a.0) (types b.0) u h in
      rw (same c.0 p.r p.first, same a.0 p.s p.second, same b.0 p.t p.third) refl
  net_same (net.Bit a i) u leaves h = let p = given1 (λ t. bit_type t i) (types a.0) u h in ap (λ k. bit_of k i) (same a.0 p.s p.first)
  net_same (net.Slice a high low) u leaves h =
      let p = given1 (λ t. slice_type t high low) (types a.0) u h in
      ap (λ k. slice_of k high low) (same a.0 p.s p.first)
  net_same (net.Concat a b) u leaves h =
      let p = given2 concat_type (types a.0) (types b.0) u h in
      ap₂ concat_of (same a.0 p.s p.first) (same b.0 p.t p.second)

-- what has a type has it where more nets have types
module _ (types more : ℕ → Option Ty) (grows : (n : ℕ) (ty : Ty) → types n ≡ Some ty → more n ≡ Some ty) where
  pub net_type_more : (n : Net) (u : Ty) → net_type types n ≡ Some u → net_type more n ≡ Some u
  net_type_more (net.Const v) u h = h
  net_type_more (net.Leaf number ty) u h = h
  net_type_more (net.Un op a) u h = let p = given1 (type1_of op) (types a.0) u h in rw (grows a.0 p.s p.first) p.gives
  net_type_more (net.Bin op a b) u h =
      let p = given2 (type2_of op) (types a.0) (types b.0) u h in
      rw (grows a.0 p.s p.first, grows b.0 p.t p.second) p.gives
  net_type_more (net.Choose c a b) u h =
      let p = given3 choose_type (types c.0) (types a.0) (types b.0) u h in
      rw (grows c.0 p.r p.first, grows a.0 p.s p.second, grows b.0 p.t p.third) p.gives
  net_type_more (net.Bit a i) u h = let p = given1 (λ t. bit_type t i) (types a.0) u h in rw (grows a.0 p.s p.first) p.gives
  net_type_more (net.Slice a high low) u h =
      let p = given1 (λ t. slice_type t high low) (types a.0) u h in
      rw (grows a.0 p.s p.first) p.gives
  net_type_more (net.Concat a b) u h =
      let p = given2 concat_type (types a.0) (types b.0) u h in
      rw (grows a.0 p.s p.first, grows b.0 p.t p.second) p.gives
