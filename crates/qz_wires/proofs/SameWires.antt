-- Equal right sides are one right side.
use Rattle.std.proofs.Common.{nat_eq, Bool, ◌≡◌, true, refl, ap, rules, arith, ◌&&◌}
use denote.Enum.Bare.{same_true}
use Rattle.std.proofs.lemmas.Bool.{and_parts}
use Rattle.std.proofs.lemmas.Grind.{common_steps}
use Rattle.qz_values.specs.declared.Value.{Value}
use Rattle.qz_values.specs.declared.Op2.{Op2}
use Rattle.qz_values.specs.declared.Ty.{Ty}
use Rattle.qz_values.specs.declared.Ty.TheVariants as ty
use Rattle.qz_verilog.specs.declared.nets.Ref.{Ref}
use Rattle.qz_verilog.specs.declared.nets.Ref.TheVariants as net
use Rattle.qz_verilog.specs.declared.nets.Rhs.{Rhs}
use Rattle.qz_verilog.specs.declared.nets.Rhs.TheVariants as rhs
use Rattle.qz_verilog.specs.contracts.nets.RhsPartialEq.TheImpl.{eq-value}
use Rattle.qz_verilog.specs.contracts.nets.RefPartialEq.TheImpl as ref
use Rattle.qz_values.specs.contracts.ValuePartialEq.TheImpl as value
use Rattle.qz_values.specs.contracts.TyPartialEq.TheImpl as type
use Rattle.qz_values.specs.contracts.Op2PartialEq.TheImpl as operator
use Rattle.qz_values.specs.contracts.Op2.{the_type}

same_ref : (x y : Ref) → (ref.eq-value).it x y ≡ true → x ≡ y
same_ref (net.Input a) (net.Input b) h = grind (arith, common_steps)
same_ref (net.Reg a) (net.Reg b) h = grind (arith, common_steps)
same_ref (net.Wire a) (net.Wire b) h = grind (arith, common_steps)
same_ref x y h = cc

same_op : (x y : Op2) → (operator.eq-value).it x y ≡ true → x ≡ y
same_op x y h = same_true the_type (search rules) x y h

same_type : (x y : Ty) → (type.eq-value).it x y ≡ true → x ≡ y
same_type (ty.Bv a) (ty.Bv b) h = grind (arith, common_steps)
same_type ty.Bool ty.Bool h = refl
same_type x y h = cc

same_value : (x y : Value) → (value.eq-value).it x y ≡ true → x ≡ y
same_value x y h =
    let parts = and_parts ((type.eq-value).it x.ty y.ty) (nat_eq x.bits y.bits) h in
    let bits : x.bits ≡ y.bits = grind (arith, common_steps) in
    λ i. record { ty = same_type x.ty y.ty parts.0 i; bits = bits i }

pub same_right_side : (x y : Rhs) → (eq-value).it x y ≡ true → x ≡ y
same_right_side (rhs.Const v) (rhs.Const w) h = ap rhs.Const (same_value v w h)
same_right_side (rhs.Invert a) (rhs.Invert b) h = ap rhs.Invert (same_ref a b h)
same_right_side (rhs.Bin o a b) (rhs.Bin p c d) h =
    let nets = (ref.eq-value).it a c && (ref.eq-value).it b d in
    let parts = and_parts ((operator.eq-value).it o p) nets h in
    let both = and_parts ((ref.eq-value).it a c) ((ref.eq-value).it b d) parts.1 in
    λ i. rhs.Bin (same_op o p parts.0 i) (same_ref a c both.0 i) (same_ref b d both.1 i)
same_right_side (rhs.Choose x a b) (rhs.Choose y c d) h =
    let nets = (ref.eq-value).it a c && (ref.eq-value).it b d in
    let parts = and_parts ((ref.eq-value).it x y) nets h in
    let both = and_parts ((ref.eq-value).it a c) ((ref.eq-value).it b d) parts.1 in
    λ i. rhs.Choose (same_ref x y parts.0 i) (same_ref a c both.0 i) (same_ref b d both.1 i)
same_right_side (rhs.Bit a m) (rhs.Bit b n) h =
    let parts = and_parts ((ref.eq-value).it a b) (nat_eq m n) h in
    let bits : m ≡ n = grind (arith, common_steps) in
    λ i. rhs.Bit (same_ref a b parts.0 i) (bits i)
same_right_side (rhs.Slice a m k) (rhs.Slice b n l) h =
    let parts = and_parts ((ref.eq-value).it a b) (nat_eq m n && nat_eq k l) h in
    let both = and_parts (nat_eq m n) (nat_eq k l) parts.1 in
    let high : m ≡ n = grind (arith, common_steps) in
    let low : k ≡ l = grind (arith, common_steps) in
    λ i. rhs.Slice (same_ref a b parts.0 i) (high i) (low i)
same_right_side (rhs.Concat a b) (rhs.Concat c d) h =
    let both = and_parts ((ref.eq-value).it a c) ((ref.eq-value).it b d) h in
    λ i. rhs.Concat (same_ref a c both.0 i) (same_ref b d both.1 i)
same_right_side x y h = cc

abbrev pub wire_eq : Ty × Rhs → Ty × Rhs → Bool
wire_eq x y = (type.eq-value).it x.0 y.0 && (eq-value).it x.1 y.1

pub same_wire : (x y : Ty × Rhs) → wire_eq x y ≡ true → x ≡ y
same_wire x y h =
    let parts = and_parts ((type.eq-value).it x.0 y.0) ((eq-value).it x.1 y.1) h in
    λ i. (same_type x.0 y.0 parts.0 i, same_right_side x.1 y.1 parts.1 i)
