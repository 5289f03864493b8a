-- By form: the rails of a net's operands fit what the form's operator asks.
use Rattle.std.proofs.Common.{◌≡◌, ℕ, Bool, true, false, ◌&&◌, cond, List, slice_get, Some, None, refl, sym, ap, subst, ◌∙◌}
use Rattle.std.proofs.lemmas.Bool.{and_parts}
use Rattle.qz_values.specs.declared.Ty.{Ty}
use Rattle.qz_values.specs.declared.Ty.TheVariants.{Bool as Truth, Bv}
use Rattle.qz_values.specs.declared.Op1.{Op1}
use Rattle.qz_values.specs.declared.Op2.{Op2}
use Rattle.qz_values.specs.Types.{is_type, is_bool, is_same_type}
use Rattle.qz_values.specs.Tables.{takes2, gives2, type1_of, type2_of, choose_type, has_bit, bit_type, slice_type, concat_type}
use Rattle.qz_values.proofs.Given.{given1, given2, given3}
use Rattle.qz_values.proofs.Typed.{same-is_same_type}
use Rattle.qz_nets.specs.declared.net.Net.TheVariants as net
use Rattle.qz_nets.specs.declared.net.NetId.{NetId}
use Rattle.qz_nets.specs.declared.table.NetTable.{NetTable}
use Rattle.qz_nets.specs.Nets.{net_type}
use Rattle.qz_nets.specs.Readings.{type_in}
use Rattle.qz_verilog.specs.declared.nets.Rhs.TheVariants as rhs
use Rattle.qz_verilog.specs.Types.{NetTypes, right_side_type}
use Rattle.qz_verilog.specs.Validity.{IsNetOf}
use Rattle.qz_wires.specs.declared.rails.Rail.{Rail}
use Rattle.qz_wires.specs.Rails.{IsRail}
use Rattle.qz_wires.specs.NetRails.{AreNetRails}
use Rattle.qz_wires.proofs.OperatorTypes.{one_operand}

if_some : (b : Bool) (t u : Ty) → cond b (Some t) None ≡ Some u → (b ≡ true) × (t ≡ u)
if_some true t u h = (refl, cc)
if_some false t u h = absurd cc

bool_type : (t : Ty) → is_bool t ≡ true → t ≡ Truth
bool_type Truth h = refl
bool_type (Bv w) h = absurd cc

some_type : (s t : Ty) → Some s ≡ Some t → s ≡ t
some_type s t h = cc

module _ (types : NetTypes) (nets : NetTable) (rails : List Rail) (are : AreNetRails types nets rails) (ty : Ty) where
  pub un_fits : (op : Op1) (a : NetId) (r : Rail) → net_type (type_in nets) (net.Un op a) ≡ Some ty → slice_get rails a.0 ≡ Some r →
      (type1_of op ty ≡ Some ty) × (type_in nets a.0 ≡ Some ty) × IsRail types ty r
  un_fits op a r h at =
      let p = given1 (type1_of op) (type_in nets a.0) ty h in
      let same = one_operand op p.s ty p.gives in
      let first : type_in nets a.0 ≡ Some ty = p.first ∙ ap Some same in
      (subst (λ s. type1_of op s ≡ Some ty) same p.gives, first, are.each a.0 ty r first at)

  pub bin_fits : (op : Op2) (a b : NetId) (s : Ty) (x y : Rail) → net_type (type_in nets) (net.Bin op a b) ≡ Some ty → type_in nets a.0 ≡ Some s →
      slice_get rails a.0 ≡ Some x → slice_get rails b.0 ≡ Some y → (type2_of op s s ≡ Some ty) × (type_in nets b.0 ≡ Some s) × IsRail types s x × IsRail types s y
  bin_fits op a b s x y h is at there =
      let p = given2 (type2_of op) (type_in nets a.0) (type_in nets b.0) ty h in
      let first : p.s ≡ s = some_type p.s s (sym p.first ∙ is) in
      let q = if_some (is_same_type p.s p.t && takes2 op p.s) (gives2 op p.s) ty p.gives in
      let same : p.t ≡ s = sym (same-is_same_type p.s p.t (and_parts (is_same_type p.s p.t) (takes2 op p.s) q.0).0) ∙ first in
      let second : type_in nets b.0 ≡ Some s = p.second ∙ ap Some same in
      (subst (λ t. type2_of op s t ≡ Some ty) same (subst (λ t. type2_of op t p.t ≡ Some ty) first p.gives), second, are.each a.0 s x is at, are.each b.0 s y second there)

  pub choose_fits : (c a b : NetId) (z x y : Rail) → net_type (type_in nets) (net.Choose c a b) ≡ Some ty →
      slice_get rails c.0 ≡ Some z → slice_get rails a.0 ≡ Some x → slice_get rails b.0 ≡ Some y → IsRail types Truth z × IsRail types ty x × IsRail types ty y
  choose_fits c a b z x y h on at there =
      let p = given3 choose_type (type_in nets c.0) (type_in nets a.0) (type_in nets b.0) ty h in
      let q = if_some (is_bool p.r && (is_same_type p.s p.t && is_type p.s)) p.s ty p.gives in
      let parts = and_parts (is_bool p.r) (is_same_type p.s p.t && is_type p.s) q.0 in
      let same : p.t ≡ ty = sym (same-is_same_type p.s p.t (and_parts (is_same_type p.s p.t) (is_type p.s) parts.1).0) ∙ q.1 in (
        are.each c.0 Truth z (p.first ∙ ap Some (bool_type p.r parts.0)) on,
        are.each a.0 ty x (p.second ∙ ap Some q.1) at,
        are.each b.0 ty y (p.third ∙ ap Some same) there,
      )

  pub bit_fits : (a : NetId) (i : ℕ) (r : Rail) → net_type (type_in nets) (net.Bit a i) ≡ Some ty → slice_get rails a.0 ≡ Some r →
      (right_side_type types (rhs.Bit r.value i) ≡ Some Truth) × IsNetOf types Truth r.known × (Truth ≡ ty)
  bit_fits a i r h at =
      let p = given1 (λ s. bit_type s i) (type_in nets a.0) ty h in
      let is = are.each a.0 p.s r p.first at in
      let q = if_some (has_bit i p.s) Truth ty p.gives in
      (rw is.value_net (p.gives ∙ ap Some (sym q.1)), is.known_net, q.1)

  pub slice_fits : (a : NetId) (high low : ℕ) (r : Rail) → net_type (type_in nets) (net.Slice a high low) ≡ Some ty → slice_get rails a.0 ≡ Some r →
      (right_side_type types (rhs.Slice r.value high low) ≡ Some ty) × IsNetOf types Truth r.known
  slice_fits a high low r h at =
      let p = given1 (λ s. slice_type s high low) (type_in nets a.0) ty h in
      let is = are.each a.0 p.s r p.first at in
      (rw is.value_net p.gives, is.known_net)

  pub concat_fits : (a b : NetId) (x y : Rail) → net_type (type_in nets) (net.Concat a b) ≡ Some ty → slice_get rails a.0 ≡ Some x → slice_get rails b.0 ≡ Some y →
      (right_side_type types (rhs.Concat x.value y.value) ≡ Some ty) × IsNetOf types Truth x.known × IsNetOf types Truth y.known
  concat_fits a b x y h at there =
      let p = given2 concat_type (type_in nets a.0) (type_in nets b.0) ty h in
      let is = are.each a.0 p.s x p.first at in
      let other = are.each b.0 p.t y p.second there in
      (rw (is.value_net, other.value_net) p.gives, is.known_net, other.known_net)
