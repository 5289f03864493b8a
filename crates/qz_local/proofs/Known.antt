-- Where each leaf is known, so is each net, and is of its type.
use Rattle.std.proofs.Common.{◌≡◌, ℕ, zero, suc, ◌<◌, Bool, true, false, cond, List, [], ◌∷◌, take, Option, Some, None, refl, sym, ap, subst, ◌∙◌, arith, if◌then◌else◌}
use Rattle.std.proofs.lemmas.Bool.{and_parts, ltb-true}
use Rattle.std.specs.Prelude.{slice_get}
use Rattle.std.specs.Option.{option_map}
use Rattle.qz_values.specs.declared.Ty.{Ty}
use Rattle.qz_values.specs.declared.Value.{Value}
use Rattle.qz_values.specs.declared.Know.{Know}
use Rattle.qz_values.specs.declared.Know.TheVariants.{Known}
use Rattle.qz_values.specs.declared.Op1.{Op1}
use Rattle.qz_values.specs.declared.Op2.{Op2}
use Rattle.qz_values.specs.Values.{type_of, is_yes}
use Rattle.qz_values.specs.Operators.{value1, value2, value_bit, value_slice, value_concat}
use Rattle.qz_values.specs.Knowledge.{apply1_of, apply2_of, choose_of, bit_of, slice_of, concat_of, decided}
use Rattle.qz_values.specs.Tables.{type1_of, type2_of, choose_type, bit_type, slice_type, concat_type}
use Rattle.qz_values.specs.Fits.{HasType, IsOf}
use Rattle.qz_values.proofs.Given.{given1, given2, given3}
use Rattle.qz_values.proofs.Typed.{typed1, typed2, typed_choose, typed_bit, typed_slice, typed_concat}
use Rattle.qz_nets.specs.declared.net.Net.{Net}
use Rattle.qz_nets.specs.declared.net.Net.TheVariants as net
use Rattle.qz_nets.specs.Nets.{constant_type, net_type, net_know}
use Rattle.qz_nets.specs.Tables.{net_at, type_at, AreNets}

-- it is known to be a value of the type
pub record Has (ty : Ty) (k : Know) : Type 0 where
  pub value : Value
  pub is : k ≡ Known value
  pub of : IsOf ty value

pub has_from : (ty : Ty) (k : Know) (v : Value) → k ≡ Known v → HasType ty k → Has ty k
has_from ty k v is typed = record { value = v; is = is; of = subst (HasType ty) is typed }

if_some : (b : Bool) (t u : Ty) → cond b (Some t) None ≡ Some u → (b ≡ true) × (t ≡ u)
if_some true t u h = (refl, cc)
if_some false t u h = absurd (cc)

has_constant : (v : Value) (u : Ty) → constant_type v ≡ Some u → Has u (Known v)
has_constant v u h =
    let parts = if_some _ (type_of v) u h in
    let fits = ltb-true _ _ (and_parts _ _ parts.0).1 in
    record { value = v; is = refl; of = record { typed = parts.1; fits = rw (← parts.1) fits } }

-- one of two values is one
has_either : (u : Ty) (b : Bool) (x y : Value) → HasType u (if b then Known x else Known y) → Has u (if b then Known x else Known y)
has_either u true x y h = record { value = x; is = refl; of = h }
has_either u false x y h = record { value = y; is = refl; of = h }

has_un : (op : Op1) (s u : Ty) (a : Know) → type1_of op s ≡ Some u → Has s a → Has u (apply1_of op a)
has_un op s u a gives one =
    subst (λ k. Has u (apply1_of op k)) (sym one.is)
    (record { value = value1 op one.value; is = refl; of = (typed1 op s u (Known one.value) gives one.of).2 })

has_bin : (op : Op2) (s t u : Ty) (a b : Know) → type2_of op s t ≡ Some u → Has s a → Has t b → Has u (apply2_of op a b)
has_bin op s t u a b gives one two =
    rw (one.is, two.is)
    (has_either u _ (decided op) (value2 op one.value two.value) (typed2 op s t u (Known one.value) (Known two.value) gives one.of two.of).2)

has_choose : (r s t u : Ty) (c a b : Know) → choose_type r s t ≡ Some u → Has r c → Has s a → Has t b → Has u (choose_of c a b)
has_choose r s t u c a b gives test one two =
    rw (test.is, one.is, two.is)
    (has_either u (is_yes test.value) one.value two.value
    (typed_choose r s t u (Known test.value) (Known one.value) (Known two.value) gives test.of one.of two.of).2)

has_bit : (i : ℕ) (s u : Ty) (a : Know) → bit_type s i ≡ Some u → Has s a → Has u (bit_of a i)
has_bit i s u a gives one =
    subst (λ k. Has u (bit_of k i)) (sym one.is)
    (record { value = value_bit one.value i; is = refl; of = (typed_bit i s u (Known one.value) gives one.of).2 })

has_slice : (high low : ℕ) (s u : Ty) (a : Know) → slice_type s high low ≡ Some u → Has s a → Has u (slice_of a high low)
has_slice high low s u a gives one =
    subst (λ k. Has u (slice_of k high low)) (sym one.is)
    (record { value = value_slice one.value high low; is = refl; of = (typed_slice high low s u (Known one.value) gives one.of).2 })

has_concat : (s t u : Ty) (a b : Know) → concat_type s t ≡ Some u → Has s a → Has t b → Has u (concat_of a b)
has_concat s t u a b gives one two =
    rw (one.is, two.is)
    (record {
      value = value_concat one.value two.value;
      is = refl;
      of = (typed_concat s t u (Known one.value) (Known two.value) gives one.of two.of).2;
    })

module _ (types : ℕ → Option Ty) (leaf know : ℕ → Know) (has : (n : ℕ) (ty : Ty) → types n ≡ Some ty → Has ty (know n)) where
  has_net : (n : Net) (u : Ty) → ((number : ℕ) (ty : Ty) → n ≡ net.Leaf number ty → Has ty (leaf number)) →
      net_type types n ≡ Some u → Has u (net_know leaf know n)
  has_net (net.Const v) u leaves h = has_constant v u h
  has_net (net.Leaf number ty) u leaves h = let parts = if_some _ ty u h in subst (λ t. Has t (leaf number)) parts.1 (leaves number ty refl)
  has_net (net.Un op a) u leaves h = let p = given1 (type1_of op) (types a.0) u h in has_un op p.s u (know a.0) p.gives (has a.0 p.s p.first)
  has_net (net.Bin op a b) u leaves h =
      let p = given2 (type2_of op) (types a.0) (types b.0) u h in
      has_bin op p.s p.t u (know a.0) (know b.0) p.gives (has a.0 p.s p.first) (has b.0 p.t p.second)
  has_net (net.Choose c a b) u leaves h =
      let p = given3 choose_type (types c.0) (types a.0) (types b.0) u h in
      has_choose p.r p.s p.t u (know c.0) (know a.0) (know b.0) p.gives (has c.0 p.r p.first) (has a.0 p.s p.second) (has b.0 p.t p.third)
  has_net (net.Bit a i) u leaves h =
      let p = given1 (λ t. bit_type t i) (types a.0) u h in has_bit i p.s u (know a.0) p.gives (has a.0 p.s p.first)
  has_net (net.Slice a high low) u leaves h =
      let p = given1 (λ t. slice_type t high low) (types a.0) u h in has_slice high low p.s u (know a.0) p.gives (has a.0 p.s p.first)
  has_net (net.Concat a b) u leaves h =
      let p = given2 concat_type (types a.0) (types b.0) u h in
      has_concat p.s p.t u (know a.0) (know b.0) p.gives (has a.0 p.s p.first) (has b.0 p.t p.second)

-- an entry that has a type
entry_of : (o : Option (Net × Ty)) (ty : Ty) → option_map (λ (e : Net × Ty). e.1) o ≡ Some ty → (n : Net) × (o ≡ Some (n, ty))
entry_of None ty h = absurd (cc)
entry_of (Some e) ty h = (e.0, let same : e.1 ≡ ty = cc in λ i. Some (e.0, same i))

-- a type among the first nets is one of the table
type_before : (entries : List (Net × Ty)) (k n : ℕ) (ty : Ty) → type_at (take k entries) n ≡ Some ty → (n < k) × (type_at entries n ≡ Some ty)
type_before entries zero n ty h = absurd (cc)
type_before [] (suc k) n ty h = absurd (cc)
type_before (e ∷ entries) (suc k) zero ty h = (omega arith, h)
type_before (e ∷ entries) (suc k) (suc n) ty h = let p = type_before entries k n ty h in (omega (arith, p.0), p.1)

module _ (entries : List (Net × Ty)) (nets : AreNets entries) (leaf know : ℕ → Know)
    (leaves : (n number : ℕ) (ty : Ty) → net_at entries n ≡ Some (net.Leaf number ty) → Has ty (leaf number))
    (solves : (n : ℕ) (m : Net) → net_at entries n ≡ Some m → know n ≡ net_know leaf know m) where
  known_below : (k n : ℕ) → n < k → (ty : Ty) → type_at entries n ≡ Some ty → Has ty (know n)
  known_below zero n below ty is = absurd (omega (arith, below))
  known_below (suc k) n below ty is =
      let e = entry_of (slice_get entries n) ty is in
      let there : net_at entries n ≡ Some e.0 = ap (option_map (λ (x : Net × Ty). x.0)) e.1 in
      let all = has_net (type_at (take n entries)) leaf know
      (λ j t h. let p = type_before entries n j t h in known_below k j (omega (arith, below, p.0)) t p.1)
      e.0 ty (λ number t same. leaves n number t (there ∙ ap Some same)) (nets.typed n e.0 ty e.1) in
      rw (solves n e.0 there) all

  pub nets_known : (n : ℕ) (ty : Ty) → type_at entries n ≡ Some ty → Has ty (know n)
  nets_known n ty is = known_below (suc n) n (omega arith) ty is
