-- The operands of a net: they stand before it, and are of the types that it takes.
use Rattle.std.proofs.Common.{◌≡◌, ℕ, zero, suc, ◌<◌, Bool, true, false, cond, List, [], ◌∷◌, take, slice_get, Option, Some, None, refl, ap, arith, ◌&&◌, nat_lt, ◌^◌}
use Rattle.std.specs.Option.{option_map}
use Rattle.std.proofs.lemmas.Bool.{and_parts, ltb-true}
use Rattle.qz_values.specs.declared.Ty.{Ty}
use Rattle.qz_values.specs.declared.Value.{Value}
use Rattle.qz_values.specs.Types.{is_type, width_of}
use Rattle.qz_values.specs.Values.{IsValue, type_of, bits_of}
use Rattle.qz_values.specs.Tables.{type1_of, type2_of, choose_type, bit_type, slice_type, concat_type}
use Rattle.qz_values.proofs.Given.{given1, given2, given3}
use Rattle.qz_values.proofs.Widths.{IsType-is_type}
use Rattle.qz_nets.specs.declared.net.Net.{Net}
use Rattle.qz_nets.specs.declared.net.Net.TheVariants as net
use Rattle.qz_nets.specs.declared.table.NetTable.{NetTable}
use Rattle.qz_nets.specs.Nets.{net_type}
use Rattle.qz_nets.specs.Tables.{type_at}
use Rattle.qz_nets.specs.Readings.{net_in, type_in}

entry_of : (o : Option (Net × Ty)) (m : Net) (ty : Ty) → option_map (λ (e : Net × Ty). e.0) o ≡ Some m → option_map (λ (e : Net × Ty). e.1) o ≡ Some ty →
    o ≡ Some (m, ty)
entry_of None m ty e f = absurd cc
entry_of (Some e) m ty h k = let a : e.0 ≡ m = cc in let b : e.1 ≡ ty = cc in λ i. Some (a i, b i)

entry_by_type : (o : Option (Net × Ty)) (ty : Ty) → option_map (λ (e : Net × Ty). e.1) o ≡ Some ty → (m : Net) × (o ≡ Some (m, ty))
entry_by_type None ty h = absurd cc
entry_by_type (Some e) ty h = (e.0, let same : e.1 ≡ ty = cc in λ i. Some (e.0, same i))

-- what stands in a first part stands in the list
get_take : {A : Type 0} (n : ℕ) (xs : List A) (k : ℕ) (x : A) → slice_get (take n xs) k ≡ Some x → (k < n) × (slice_get xs k ≡ Some x)
get_take zero xs k x e = absurd cc
get_take (suc n) [] k x e = absurd cc
get_take (suc n) (y ∷ ys) zero x e = (omega arith, e)
get_take (suc n) (y ∷ ys) (suc k) x e = let rest = get_take n ys k x e in (omega (arith, rest.0), rest.1)

before : (entries : List (Net × Ty)) (n k : ℕ) (s : Ty) → type_at (take n entries) k ≡ Some s → (k < n) × (type_at entries k ≡ Some s)
before entries n k s h =
    let e = entry_by_type (slice_get (take n entries) k) s h in
    let at = get_take n entries k (e.0, s) e.1 in
    (at.0, ap (option_map (λ (e : Net × Ty). e.1)) at.1)

-- each operand stands before the number
abbrev pub AreBefore : ℕ → Net → Type 0
AreBefore n (net.Const v) = Unit {0}
AreBefore n (net.Leaf number t) = Unit {0}
AreBefore n (net.Un op a) = a.0 < n
AreBefore n (net.Bin op a b) = (a.0 < n) × (b.0 < n)
AreBefore n (net.Choose c a b) = (c.0 < n) × (a.0 < n) × (b.0 < n)
AreBefore n (net.Bit a i) = a.0 < n
AreBefore n (net.Slice a high low) = a.0 < n
AreBefore n (net.Concat a b) = (a.0 < n) × (b.0 < n)

module _ (entries : List (Net × Ty)) (n : ℕ) where
  abbrev early : ℕ → Option Ty
  early = type_at (take n entries)

  stands : (m : Net) (ty : Ty) → net_type early m ≡ Some ty → AreBefore n m × (net_type (type_at entries) m ≡ Some ty)
  stands (net.Const v) ty h = (tt, h)
  stands (net.Leaf number t) ty h = (tt, h)
  stands (net.Un op a) ty h =
      let p = given1 (type1_of op) (early a.0) ty h in
      let x = before entries n a.0 p.s p.first in
      (x.0, rw x.1 p.gives)
  stands (net.Bin op a b) ty h =
      let p = given2 (type2_of op) (early a.0) (early b.0) ty h in
      let x = before entries n a.0 p.s p.first in
      let y = before entries n b.0 p.t p.second in
      ((x.0, y.0), rw (x.1, y.1) p.gives)
  stands (net.Choose c a b) ty h =
      let p = given3 choose_type (early c.0) (early a.0) (early b.0) ty h in
      let z = before entries n c.0 p.r p.first in
      let x = before entries n a.0 p.s p.second in
      let y = before entries n b.0 p.t p.third in
      ((z.0, x.0, y.0), rw (z.1, x.1, y.1) p.gives)
  stands (net.Bit a i) ty h =
      let p = given1 (λ t. bit_type t i) (early a.0) ty h in
      let x = before entries n a.0 p.s p.first in
      (x.0, rw x.1 p.gives)
  stands (net.Slice a high low) ty h =
      let p = given1 (λ t. slice_type t high low) (early a.0) ty h in
      let x = before entries n a.0 p.s p.first in
      (x.0, rw x.1 p.gives)
  stands (net.Concat a b) ty h =
      let p = given2 concat_type (early a.0) (early b.0) ty h in
      let x = before entries n a.0 p.s p.first in
      let y = before entries n b.0 p.t p.second in
      ((x.0, y.0), rw (x.1, y.1) p.gives)

module _ (nets : NetTable) (n : ℕ) (m : Net) (ty : Ty) (at : net_in nets n ≡ Some m) (type : type_in nets n ≡ Some ty) where
  abbrev all : AreBefore n m × (net_type (type_in nets) m ≡ Some ty)
  all = stands nets.nets.entries n m ty (nets.sound.typed n m ty (entry_of (slice_get nets.nets.entries n) m ty at type))

  -- the operands of a net stand before it
  pub operands_before : AreBefore n m
  operands_before = all.0

  -- and are of types that the net takes
  pub operands_fit : net_type (type_in nets) m ≡ Some ty
  operands_fit = all.1

if_some : (b : Bool) (t u : Ty) → cond b (Some t) None ≡ Some u → (b ≡ true) × (t ≡ u)
if_some true t u h = (refl, cc)
if_some false t u h = absurd cc

-- a constant that is a net
pub constant_fits : (types : ℕ → Option Ty) (v : Value) (ty : Ty) → net_type types (net.Const v) ≡ Some ty → IsValue v × (type_of v ≡ ty)
constant_fits types v ty h =
    let q = if_some (is_type (type_of v) && nat_lt (bits_of v) (2 ^ width_of (type_of v))) (type_of v) ty h in
    let parts = and_parts _ _ q.0 in
    (record { typed = IsType-is_type (type_of v) parts.0; fits = ltb-true _ _ parts.1 }, q.1)

pub leaf_fits : (types : ℕ → Option Ty) (number : ℕ) (t ty : Ty) → net_type types (net.Leaf number t) ≡ Some ty → t ≡ ty
leaf_fits types number t ty h = (if_some (is_type t) t ty h).1
