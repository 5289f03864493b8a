-- Nets that the test finds equal are equal.
use Rattle.std.proofs.Common.{nat_eq, ◌≡◌, true, refl, ap, rules, arith, ◌&&◌}
use denote.Enum.Bare.{same_true}
use Rattle.std.proofs.lemmas.Bool.{and_parts, eqb-true}
use Rattle.std.proofs.lemmas.Grind.{common_steps}
use Rattle.qz_values.specs.declared.Value.{Value}
use Rattle.qz_values.specs.declared.Op1.{Op1}
use Rattle.qz_values.specs.declared.Op2.{Op2}
use Rattle.qz_values.specs.declared.Ty.{Ty}
use Rattle.qz_values.specs.declared.Ty.TheVariants as ty
use Rattle.qz_values.specs.contracts.ValuePartialEq.TheImpl as value
use Rattle.qz_values.specs.contracts.TyPartialEq.TheImpl as type
use Rattle.qz_values.specs.contracts.Op1PartialEq.TheImpl as operator1
use Rattle.qz_values.specs.contracts.Op2PartialEq.TheImpl as operator2
use Rattle.qz_values.specs.contracts.Op1 as of_one
use Rattle.qz_values.specs.contracts.Op2 as of_two
use Rattle.qz_nets.specs.declared.net.Net.{Net}
use Rattle.qz_nets.specs.declared.net.Net.TheVariants as net
use Rattle.qz_nets.specs.declared.net.NetId.{NetId}
use Rattle.qz_nets.specs.contracts.net.NetPartialEq.TheImpl.{eq-value}
use Rattle.qz_nets.specs.contracts.net.NetIdPartialEq.TheImpl as number

same_number : (x y : NetId) → (number.eq-value).it x y ≡ true → x ≡ y
same_number x y h = let e : x.0 ≡ y.0 = eqb-true x.0 y.0 h in λ i. record { 0 = e i }

same_op1 : (x y : Op1) → (operator1.eq-value).it x y ≡ true → x ≡ y
same_op1 x y h = same_true of_one.the_type (search rules) x y h

same_op2 : (x y : Op2) → (operator2.eq-value).it x y ≡ true → x ≡ y
same_op2 x y h = same_true of_two.the_type (search rules) x y h

same_type : (x y : Ty) → (type.eq-value).it x y ≡ true → x ≡ y
same_type (ty.Bv a) (ty.Bv b) h = grind (arith, common_steps)
same_type ty.Bool ty.Bool h = refl
same_type x y h = cc

same_value : (x y : Value) → (value.eq-value).it x y ≡ true → x ≡ y
same_value x y h =
    let parts = and_parts ((type.eq-value).it x.ty y.ty) (nat_eq x.bits y.bits) h in
    let bits : x.bits ≡ y.bits = eqb-true x.bits y.bits parts.1 in
    λ i. record { ty = same_type x.ty y.ty parts.0 i; bits = bits i }

pub same_net : (x y : Net) → (eq-value).it x y ≡ true → x ≡ y
same_net (net.Const v) (net.Const w) h = ap net.Const (same_value v w h)
same_net (net.Leaf m s) (net.Leaf n t) h =
    let parts = and_parts (nat_eq m n) ((type.eq-value).it s t) h in
    let places : m ≡ n = eqb-true m n parts.0 in
    λ i. net.Leaf (places i) (same_type s t parts.1 i)
same_net (net.Un o a) (net.Un p b) h =
    let parts = and_parts ((operator1.eq-value).it o p) ((number.eq-value).it a b) h in
    λ i. net.Un (same_op1 o p parts.0 i) (same_number a b parts.1 i)
same_net (net.Bin o a b) (net.Bin p c d) h =
    let parts = and_parts ((operator2.eq-value).it o p) ((number.eq-value).it a c && (number.eq-value).it b d) h in
    let both = and_parts ((number.eq-value).it a c) ((number.eq-value).it b d) parts.1 in
    λ i. net.Bin (same_op2 o p parts.0 i) (same_number a c both.0 i) (same_number b d both.1 i)
same_net (net.Choose x a b) (net.Choose y c d) h =
    let parts = and_parts ((number.eq-value).it x y) ((number.eq-value).it a c && (number.eq-value).it b d) h in
    let both = and_parts ((number.eq-value).it a c) ((number.eq-value).it b d) parts.1 in
    λ i. net.Choose (same_number x y parts.0 i) (same_number a c both.0 i) (same_number b d both.1 i)
same_net (net.Bit a m) (net.Bit b n) h =
    let parts = and_parts ((number.eq-value).it a b) (nat_eq m n) h in
    let bits : m ≡ n = eqb-true m n parts.1 in
    λ i. net.Bit (same_number a b parts.0 i) (bits i)
same_net (net.Slice a m k) (net.Slice b n l) h =
    let parts = and_parts ((number.eq-value).it a b) (nat_eq m n && nat_eq k l) h in
    let both = and_parts (nat_eq m n) (nat_eq k l) parts.1 in
    let high : m ≡ n = eqb-true m n both.0 in
    let low : k ≡ l = eqb-true k l both.1 in
    λ i. net.Slice (same_number a b parts.0 i) (high i) (low i)
same_net (net.Concat a b) (net.Concat c d) h =
    let both = and_parts ((number.eq-value).it a c) ((number.eq-value).it b d) h in
    λ i. net.Concat (same_number a c both.0 i) (same_number b d both.1 i)
same_net x y h = cc
