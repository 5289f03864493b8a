-- What is known of a net, where the table is read by knowledge of leaves of their types, is of the net's type.
use Rattle.std.proofs.Common.{◌≡◌, ℕ, zero, suc, ◌<◌, Bool, true, false, cond, List, [], ◌∷◌, take, Option, Some, None, refl, ap, subst, ◌∙◌, arith}
use Rattle.std.proofs.lemmas.Bool.{and_parts, ltb-true}
use Rattle.std.specs.Prelude.{slice_get}
use Rattle.std.specs.Option.{option_map}
use Rattle.qz_values.specs.declared.Ty.{Ty}
use Rattle.qz_values.specs.declared.Value.{Value}
use Rattle.qz_values.specs.declared.Know.{Know}
use Rattle.qz_values.specs.declared.Know.TheVariants.{Known}
use Rattle.qz_values.specs.Values.{type_of}
use Rattle.qz_values.specs.Tables.{type1_of, type2_of, choose_type, bit_type, slice_type, concat_type}
use Rattle.qz_values.specs.Fits.{HasType}
use Rattle.qz_values.proofs.Given.{given1, given2, given3}
use Rattle.qz_values.proofs.Typed.{typed1, typed2, typed_choose, typed_bit, typed_slice, typed_concat}
use Rattle.qz_nets.specs.declared.net.Net.{Net}
use Rattle.qz_nets.specs.declared.net.Net.TheVariants as net
use Rattle.qz_nets.specs.Nets.{constant_type, net_type, net_know}
use Rattle.qz_nets.specs.Tables.{net_at, type_at, AreNets}

if_some : (b : Bool) (t u : Ty) → cond b (Some t) None ≡ Some u → (b ≡ true) × (t ≡ u)
if_some true t u h = (refl, cc)
if_some false t u h = absurd (cc)

constant_typed : (v : Value) (u : Ty) → constant_type v ≡ Some u → HasType u (Known v)
constant_typed v u h =
    let parts = if_some _ (type_of v) u h in
    let fits = ltb-true _ _ (and_parts _ _ parts.0).1 in
    record { typed = parts.1; fits = rw (← parts.1) fits }

module _ (types : ℕ → Option Ty) (leaf know : ℕ → Know) (typed : (n : ℕ) (ty : Ty) → types n ≡ Some ty → HasType ty (know n)) where
  net_typed : (n : Net) (u : Ty) → ((number : ℕ) (ty : Ty) → n ≡ net.Leaf number ty → HasType ty (leaf number)) →
      net_type types n ≡ Some u → HasType u (net_know leaf know n)
  net_typed (net.Const v) u leaves h = constant_typed v u h
  net_typed (net.Leaf number ty) u leaves h = let parts = if_some _ ty u h in subst (λ t. HasType t (leaf number)) parts.1 (leaves number ty refl)
  net_typed (net.Un op a) u leaves h = let p = given1 (type1_of op) (types a.0) u h in (typed1 op p.s u (know a.0) p.gives (typed a.0 p.s p.first)).2
  net_typed (net.Bin op a b) u leaves h =
      let p = given2 (type2_of op) (types a.0) (types b.0) u h in
      (typed2 op p.s p.t u (know a.0) (know b.0) p.gives (typed a.0 p.s p.first) (typed b.0 p.t p.second)).2
  net_typed (net.Choose c a b) u leaves h =
      let p = given3 choose_type (types c.0) (types a.0) (types b.0) u h in
      (typed_choose p.r p.s p.t u (know c.0) (know a.0) (know b.0) p.gives
      (typed c.0 p.r p.first) (typed a.0 p.s p.second) (typed b.0 p.t p.third)).2
  net_typed (net.Bit a i) u leaves h =
      let p = given1 (λ t. bit_type t i) (types a.0) u h in
      (typed_bit i p.s u (know a.0) p.gives (typed a.0 p.s p.first)).2
  net_typed (net.Slice a high low) u leaves h =
      let p = given1 (λ t. slice_type t high low) (types a.0) u h in
      (typed_slice high low p.s u (know a.0) p.gives (typed a.0 p.s p.first)).2
  net_typed (net.Concat a b) u leaves h =
      let p = given2 concat_type (types a.0) (types b.0) u h in
      (typed_concat p.s p.t u (know a.0) (know b.0) p.gives (typed a.0 p.s p.first) (typed b.0 p.t p.second)).2

-- an entry that has a type
entry_of : (o : Option (Net × Ty)) (ty : Ty) → option_map (λ (e : Net × Ty). e.1) o ≡ Some ty → (n : Net) × (o ≡ Some (n, ty))
entry_of None ty h = absurd (cc)
entry_of (Some e) ty h = (e.0, let same : e.1 ≡ ty = cc in λ i. Some (e.0, same i))

-- a type among the first nets is one of the table
type_before : (entries : List (Net × Ty)) (k n : ℕ) (ty : Ty) → type_at (take k entries) n ≡ Some ty → (n < k) × (type_at entries n ≡ Some ty)
type_before entries zero n ty h = absurd (cc)
type_before [] (suc k) n ty h = absurd (cc)
type_before (e ∷ entries) (suc k) zero ty h = (omega arith, h)
type_before (e ∷ entries) (suc k) (suc n) ty h = let p = type_before entries k n ty h in (omega (arith, p.0), p.1)

module _ (entries : List (Net × Ty)) (nets : AreNets entries) (leaf know : ℕ → Know)
    (leaves : (n number : ℕ) (ty : Ty) → net_at entries n ≡ Some (net.Leaf number ty) → HasType ty (leaf number))
    (solves : (n : ℕ) (m : Net) → net_at entries n ≡ Some m → know n ≡ net_know leaf know m) where
  typed_below : (k n : ℕ) → n < k → (ty : Ty) → type_at entries n ≡ Some ty → HasType ty (know n)
  typed_below zero n below ty is = absurd (omega (arith, below))
  typed_below (suc k) n below ty is =
      let e = entry_of (slice_get entries n) ty is in
      let there : net_at entries n ≡ Some e.0 = ap (option_map (λ (x : Net × Ty). x.0)) e.1 in
      let all = net_typed (type_at (take n entries)) leaf know
      (λ j t h. let p = type_before entries n j t h in typed_below k j (omega (arith, below, p.0)) t p.1)
      e.0 ty (λ number t same. leaves n number t (there ∙ ap Some same)) (nets.typed n e.0 ty e.1) in
      rw (solves n e.0 there) all

  pub reading_typed : (n : ℕ) (ty : Ty) → type_at entries n ≡ Some ty → HasType ty (know n)
  reading_typed n ty is = typed_below (suc n) n (omega arith) ty is
