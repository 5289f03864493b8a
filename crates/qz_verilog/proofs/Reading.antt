-- The operators of a right side may be given the values of its operands.
use Rattle.std.proofs.Common.{◌≡◌, ℕ, IsSome, refl}
use Rattle.qz_values.specs.declared.Know.TheVariants.{Known}
use Rattle.qz_values.specs.declared.Op2.{Op2}
use Rattle.qz_values.specs.Values.{type_of}
use Rattle.qz_values.specs.Operators.{value2}
use Rattle.qz_values.specs.Knowledge.{apply2_of}
use Rattle.qz_values.specs.Tables.{type2_of, choose_type, bit_type, slice_type, concat_type}
use Rattle.qz_values.specs.Fits.{Fits2, FitsChoose, FitsBit, FitsSlice, FitsConcat}
use Rattle.qz_values.proofs.Typed.{typed2, typed_choose, typed_bit, typed_slice, typed_concat}
use Rattle.qz_verilog.specs.declared.nets.Ref.{Ref}
use Rattle.qz_verilog.specs.declared.nets.Rhs.{Rhs}
use Rattle.qz_verilog.specs.declared.nets.Rhs.TheVariants as rhs
use Rattle.qz_verilog.specs.Types.{net_type, inverted_type, has_sign}
use Rattle.qz_verilog.specs.Meaning.{Nets, value_at}
use Rattle.qz_verilog.specs.Simulation.{CanBeRead}
use Rattle.qz_values.proofs.Given.{given1, given2, given3}
use Rattle.qz_verilog.proofs.RightSides.{AreTyped, if_some, apply2-known}
use Rattle.qz_verilog.proofs.KeepingTypes.{typed_nets}

module _ (nets : Nets) where
  abbrev typed_here : (right : Rhs) (r : CanBeRead nets right) → AreTyped r.types nets
  typed_here right r = typed_nets r.types nets r.typed

  pub fits_invert : (x : Ref) → CanBeRead nets (rhs.Invert x) → IsSome (inverted_type (type_of (value_at nets x)))
  fits_invert x r =
      let p = given1 inverted_type (net_type r.types x) r.ty r.is in
      let typed = typed_here (rhs.Invert x) r x p.s p.first in
      rw (typed.typed, p.gives) refl

  pub fits_bin : (op : Op2) (x y : Ref) → CanBeRead nets (rhs.Bin op x y) → Fits2 op (Known (value_at nets x)) (Known (value_at nets y))
  fits_bin op x y r =
      let q = if_some (has_sign op) _ r.ty r.is in
      let p = given2 (type2_of op) (net_type r.types x) (net_type r.types y) r.ty q.1 in
      let typed = typed_here (rhs.Bin op x y) r in
      (typed2 op p.s p.t r.ty (Known (value_at nets x)) (Known (value_at nets y)) p.gives (typed x p.s p.first) (typed y p.t p.second)).1

  pub bin_known : (op : Op2) (x y : Ref) → CanBeRead nets (rhs.Bin op x y) →
      apply2_of op (Known (value_at nets x)) (Known (value_at nets y)) ≡ Known (value2 op (value_at nets x) (value_at nets y))
  bin_known op x y r =
      let q = if_some (has_sign op) _ r.ty r.is in
      let p = given2 (type2_of op) (net_type r.types x) (net_type r.types y) r.ty q.1 in
      let typed = typed_here (rhs.Bin op x y) r in
      apply2-known op p.s p.t r.ty (value_at nets x) (value_at nets y) q.0 p.gives (typed x p.s p.first) (typed y p.t p.second)

  pub fits_choose : (c x y : Ref) → CanBeRead nets (rhs.Choose c x y) →
      FitsChoose (Known (value_at nets c)) (Known (value_at nets x)) (Known (value_at nets y))
  fits_choose c x y r =
      let p = given3 choose_type (net_type r.types c) (net_type r.types x) (net_type r.types y) r.ty r.is in
      let typed = typed_here (rhs.Choose c x y) r in
      (typed_choose p.r p.s p.t r.ty (Known (value_at nets c)) (Known (value_at nets x)) (Known (value_at nets y)) p.gives
      (typed c p.r p.first) (typed x p.s p.second) (typed y p.t p.third)).1

  pub fits_bit : (x : Ref) (i : ℕ) → CanBeRead nets (rhs.Bit x i) → FitsBit (Known (value_at nets x)) i
  fits_bit x i r =
      let p = given1 (λ t. bit_type t i) (net_type r.types x) r.ty r.is in
      (typed_bit i p.s r.ty (Known (value_at nets x)) p.gives (typed_here (rhs.Bit x i) r x p.s p.first)).1

  pub fits_slice : (x : Ref) (high low : ℕ) → CanBeRead nets (rhs.Slice x high low) → FitsSlice (Known (value_at nets x)) high low
  fits_slice x high low r =
      let p = given1 (λ t. slice_type t high low) (net_type r.types x) r.ty r.is in
      (typed_slice high low p.s r.ty (Known (value_at nets x)) p.gives (typed_here (rhs.Slice x high low) r x p.s p.first)).1

  pub fits_concat : (x y : Ref) → CanBeRead nets (rhs.Concat x y) → FitsConcat (Known (value_at nets x)) (Known (value_at nets y))
  fits_concat x y r =
      let p = given2 concat_type (net_type r.types x) (net_type r.types y) r.ty r.is in
      let typed = typed_here (rhs.Concat x y) r in
      (typed_concat p.s p.t r.ty (Known (value_at nets x)) (Known (value_at nets y)) p.gives (typed x p.s p.first) (typed y p.t p.second)).1
