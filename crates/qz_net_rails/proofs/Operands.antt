-- The types of a net's operands, by the net's type.
use Rattle.std.proofs.Common.{◌≡◌, ℕ, zero, suc, ◌+◌, ◌-◌, ◌<◌, ◌≤◌, Bool, true, false, ◌&&◌, cond, List, [], ◌∷◌, length, take, slice_get, get_or, Option, Some, None, refl, sym, ap, ap₂, subst, nat_lt, ◌^◌, ◌∙◌, ◌⊎◌, inl, inr, arith}
use Rattle.std.specs.Option.{option_map}
use Rattle.std.proofs.lemmas.Bool.{and_parts, ltb-true, leb-true, eqb-true}
use Rattle.std.proofs.lemmas.Option.{slice_get_cases}
use Rattle.qz_values.specs.declared.Ty.{Ty}
use Rattle.qz_values.specs.declared.Ty.TheVariants.{Bool as Truth, Bv}
use Rattle.qz_values.specs.declared.Value.{Value}
use Rattle.qz_values.specs.declared.Op1.{Op1}
use Rattle.qz_values.specs.declared.Op2.{Op2}
use Rattle.qz_values.specs.declared.Op2.TheVariants.{And, Or, Xor, Imp, Add, Sub, Eq, Ne, Lt, Le, Gt, Ge}
use Rattle.qz_values.specs.Types.{width_of, IsType, is_type, is_bool, is_vector, is_same_type}
use Rattle.qz_values.specs.Values.{IsValue, type_of, bits_of}
use Rattle.qz_values.specs.Tables.{takes1, takes2, gives2, type1_of, type2_of, choose_type, bit_type, slice_type, concat_type, has_bit, has_slice, has_room}
use Rattle.qz_values.proofs.Given.{given1, given2, given3}
use Rattle.qz_values.proofs.Widths.{IsType-is_type, IsType-is_vector}
use Rattle.qz_nets.specs.declared.net.Net.{Net}
use Rattle.qz_nets.specs.declared.net.Net.TheVariants as net
use Rattle.qz_nets.specs.declared.net.NetId.{NetId}
use Rattle.qz_nets.specs.declared.table.NetTable.{NetTable}
use Rattle.qz_nets.specs.Nets.{net_type, constant_type, leaf_type}
use Rattle.qz_nets.specs.Tables.{net_at, type_at}
use Rattle.qz_nets.specs.Readings.{count, net_in, type_in}

if_some : (b : Bool) (t u : Ty) → cond b (Some t) None ≡ Some u → (b ≡ true) × (t ≡ u)
if_some true t u h = (refl, cc)
if_some false t u h = absurd cc

same_type : (s t : Ty) → is_same_type s t ≡ true → s ≡ t
same_type Truth Truth h = refl
same_type Truth (Bv w) h = absurd cc
same_type (Bv v) Truth h = absurd cc
same_type (Bv v) (Bv w) h = ap Bv (eqb-true v w h)

bool_type : (t : Ty) → is_bool t ≡ true → t ≡ Truth
bool_type Truth h = refl
bool_type (Bv w) h = absurd cc

IsType-is_bool : (t : Ty) → is_bool t ≡ true → IsType t
IsType-is_bool Truth h = record { at_least_1 = omega arith; at_most_64 = omega arith }
IsType-is_bool (Bv w) h = absurd cc

taken : (op : Op2) (t : Ty) → takes2 op t ≡ true → IsType t
taken And t h = IsType-is_type t h
taken Or t h = IsType-is_type t h
taken Xor t h = IsType-is_type t h
taken Imp t h = IsType-is_bool t h
taken Add t h = IsType-is_vector t h
taken Sub t h = IsType-is_vector t h
taken Eq t h = IsType-is_type t h
taken Ne t h = IsType-is_type t h
taken Lt t h = IsType-is_vector t h
taken Le t h = IsType-is_vector t h
taken Gt t h = IsType-is_vector t h
taken Ge t h = IsType-is_vector t h

entry_of : (o : Option (Net × Ty)) (m : Net) (ty : Ty) → option_map (λ (e : Net × Ty). e.0) o ≡ Some m → option_map (λ (e : Net × Ty). e.1) o ≡ Some ty →
    o ≡ Some (m, ty)
entry_of None m ty e f = absurd cc
entry_of (Some e) m ty h k = let a : e.0 ≡ m = cc in let b : e.1 ≡ ty = cc in λ i. Some (a i, b i)

-- what stands in a first part stands in the list
get_take : {A : Type 0} (n : ℕ) (xs : List A) (k : ℕ) (x : A) → slice_get (take n xs) k ≡ Some x → (k < n) × (slice_get xs k ≡ Some x)
get_take zero xs k x e = absurd cc
get_take (suc n) [] k x e = absurd cc
get_take (suc n) (y ∷ ys) zero x e = (omega arith, e)
get_take (suc n) (y ∷ ys) (suc k) x e = let rest = get_take n ys k x e in (omega (arith, rest.0), rest.1)

entry_by_type : (o : Option (Net × Ty)) (ty : Ty) → option_map (λ (e : Net × Ty). e.1) o ≡ Some ty → (m : Net) × (o ≡ Some (m, ty))
entry_by_type None ty h = absurd cc
entry_by_type (Some e) ty h = (e.0, let same : e.1 ≡ ty = cc in λ i. Some (e.0, same i))

-- an operand stands before its net
pub before : (entries : List (Net × Ty)) (n k : ℕ) (s : Ty) → type_at (take n entries) k ≡ Some s → (k < n) × (type_at entries k ≡ Some s)
before entries n k s h =
    let e = entry_by_type (slice_get (take n entries) k) s h in
    let at = get_take n entries k (e.0, s) e.1 in
    (at.0, ap (option_map (λ (e : Net × Ty). e.1)) at.1)

-- each number in range has a type
pub type_there : (nets : NetTable) (n : ℕ) → n < count nets → (ty : Ty) × (type_in nets n ≡ Some ty)
type_there nets n below = by (slice_get_cases nets.nets.entries n).1
  where
    by : ((e : Net × Ty) × (n < length nets.nets.entries) × (slice_get nets.nets.entries n ≡ Some e) × (get_or nets.nets.entries n e ≡ e)) ⊎
        ((length nets.nets.entries ≤ n) × (slice_get nets.nets.entries n ≡ None)) → (ty : Ty) × (type_in nets n ≡ Some ty)
    by (inl h) = (h.0.1, ap (option_map (λ (e : Net × Ty). e.1)) h.2)
    by (inr h) = absurd (omega (arith, below, h.0))

module _ (nets : NetTable) (n : ℕ) (ty : Ty) (type : type_in nets n ≡ Some ty) where
  typed : (m : Net) → net_in nets n ≡ Some m → net_type (type_at (take n nets.nets.entries)) m ≡ Some ty
  typed m at = nets.sound.typed n m ty (entry_of (slice_get nets.nets.entries n) m ty at type)

  operand : (k : ℕ) (s : Ty) → type_at (take n nets.nets.entries) k ≡ Some s → (k < n) × (type_in nets k ≡ Some s)
  operand k s h = before nets.nets.entries n k s h

  -- two types of one number are one
  one_type : (k : ℕ) (s t : Ty) → type_at (take n nets.nets.entries) k ≡ Some s → type_in nets k ≡ Some t → s ≡ t
  one_type k s t h is = let e : Some s ≡ Some t = sym (operand k s h).1 ∙ is in cc

  -- the net's operands stand before it
  pub un_before : (op : Op1) (a : NetId) → net_in nets n ≡ Some (net.Un op a) → a.0 < n
  un_before op a at = let p = given1 (type1_of op) (type_at (take n nets.nets.entries) a.0) ty (typed (net.Un op a) at) in (operand a.0 p.s p.first).0

  pub bin_before : (op : Op2) (a b : NetId) → net_in nets n ≡ Some (net.Bin op a b) → (a.0 < n) × (b.0 < n)
  bin_before op a b at =
      let types = type_at (take n nets.nets.entries) in
      let p = given2 (type2_of op) (types a.0) (types b.0) ty (typed (net.Bin op a b) at) in
      ((operand a.0 p.s p.first).0, (operand b.0 p.t p.second).0)

  pub choose_before : (c a b : NetId) → net_in nets n ≡ Some (net.Choose c a b) → (c.0 < n) × (a.0 < n) × (b.0 < n)
  choose_before c a b at =
      let types = type_at (take n nets.nets.entries) in
      let p = given3 choose_type (types c.0) (types a.0) (types b.0) ty (typed (net.Choose c a b) at) in
      ((operand c.0 p.r p.first).0, (operand a.0 p.s p.second).0, (operand b.0 p.t p.third).0)

  pub bit_before : (a : NetId) (i : ℕ) → net_in nets n ≡ Some (net.Bit a i) → a.0 < n
  bit_before a i at = let p = given1 (λ t. bit_type t i) (type_at (take n nets.nets.entries) a.0) ty (typed (net.Bit a i) at) in (operand a.0 p.s p.first).0

  pub slice_before : (a : NetId) (high low : ℕ) → net_in nets n ≡ Some (net.Slice a high low) → a.0 < n
  slice_before a high low at =
      let p = given1 (λ t. slice_type t high low) (type_at (take n nets.nets.entries) a.0) ty (typed (net.Slice a high low) at) in
      (operand a.0 p.s p.first).0

  pub concat_before : (a b : NetId) → net_in nets n ≡ Some (net.Concat a b) → (a.0 < n) × (b.0 < n)
  concat_before a b at =
      let types = type_at (take n nets.nets.entries) in
      let p = given2 concat_type (types a.0) (types b.0) ty (typed (net.Concat a b) at) in
      ((operand a.0 p.s p.first).0, (operand b.0 p.t p.second).0)

  -- what each form asks of its operands' types, and the type that it gives
  pub record ConstFits (v : Value) : Type 0 where
    pub value : IsValue v
    pub gives : type_of v ≡ ty

  pub const_fits : (v : Value) → net_in nets n ≡ Some (net.Const v) → ConstFits v
  const_fits v at =
      let q = if_some (is_type (type_of v) && nat_lt (bits_of v) (2 ^ width_of (type_of v))) (type_of v) ty (typed (net.Const v) at) in
      let parts = and_parts _ _ q.0 in
      record { value = record { typed = IsType-is_type (type_of v) parts.0; fits = ltb-true _ _ parts.1 }; gives = q.1 }

  pub leaf_fits : (number : ℕ) (t : Ty) → net_in nets n ≡ Some (net.Leaf number t) → t ≡ ty
  leaf_fits number t at = (if_some (is_type t) t ty (typed (net.Leaf number t) at)).1

  pub record UnFits (op : Op1) (s : Ty) : Type 0 where
    pub takes : takes1 op s ≡ true
    pub gives : s ≡ ty

  pub un_fits : (op : Op1) (a : NetId) (s : Ty) → net_in nets n ≡ Some (net.Un op a) → type_in nets a.0 ≡ Some s → UnFits op s
  un_fits op a s at is =
      let p = given1 (type1_of op) (type_at (take n nets.nets.entries) a.0) ty (typed (net.Un op a) at) in
      let q = if_some (takes1 op p.s) p.s ty p.gives in
      subst (λ t. UnFits op t) (one_type a.0 p.s s p.first is) record { takes = q.0; gives = q.1 }

  pub record BinFits (op : Op2) (b : ℕ) (s : Ty) : Type 0 where
    pub takes : takes2 op s ≡ true
    pub typed : IsType s
    pub other : type_in nets b ≡ Some s
    pub gives : gives2 op s ≡ ty

  pub bin_fits : (op : Op2) (a b : NetId) (s : Ty) → net_in nets n ≡ Some (net.Bin op a b) → type_in nets a.0 ≡ Some s → BinFits op b.0 s
  bin_fits op a b s at is =
      let types = type_at (take n nets.nets.entries) in
      let p = given2 (type2_of op) (types a.0) (types b.0) ty (typed (net.Bin op a b) at) in
      let q = if_some (is_same_type p.s p.t && takes2 op p.s) (gives2 op p.s) ty p.gives in
      let parts = and_parts _ _ q.0 in
      let other : type_in nets b.0 ≡ Some p.s = (operand b.0 p.t p.second).1 ∙ ap (λ t. Some t) (sym (same_type p.s p.t parts.0)) in
      subst (λ t. BinFits op b.0 t) (one_type a.0 p.s s p.first is)
      record { takes = parts.1; typed = taken op p.s parts.1; other = other; gives = q.1 }

  pub record ChooseFits (c b : ℕ) (s : Ty) : Type 0 where
    pub condition : type_in nets c ≡ Some Truth
    pub other : type_in nets b ≡ Some s
    pub gives : s ≡ ty

  pub choose_fits : (c a b : NetId) (s : Ty) → net_in nets n ≡ Some (net.Choose c a b) → type_in nets a.0 ≡ Some s → ChooseFits c.0 b.0 s
  choose_fits c a b s at is =
      let types = type_at (take n nets.nets.entries) in
      let p = given3 choose_type (types c.0) (types a.0) (types b.0) ty (typed (net.Choose c a b) at) in
      let q = if_some (is_bool p.r && (is_same_type p.s p.t && is_type p.s)) p.s ty p.gives in
      let parts = and_parts _ _ q.0 in
      let sides = and_parts _ _ parts.1 in
      let condition : type_in nets c.0 ≡ Some Truth = (operand c.0 p.r p.first).1 ∙ ap (λ t. Some t) (bool_type p.r parts.0) in
      let other : type_in nets b.0 ≡ Some p.s = (operand b.0 p.t p.third).1 ∙ ap (λ t. Some t) (sym (same_type p.s p.t sides.0)) in
      subst (λ t. ChooseFits c.0 b.0 t) (one_type a.0 p.s s p.second is) record { condition = condition; other = other; gives = q.1 }

  pub record BitFits (i : ℕ) (s : Ty) : Type 0 where
    pub within : i < width_of s
    pub gives : Truth ≡ ty

  pub bit_fits : (a : NetId) (i : ℕ) (s : Ty) → net_in nets n ≡ Some (net.Bit a i) → type_in nets a.0 ≡ Some s → BitFits i s
  bit_fits a i s at is =
      let p = given1 (λ t. bit_type t i) (type_at (take n nets.nets.entries) a.0) ty (typed (net.Bit a i) at) in
      let q = if_some (has_bit i p.s) Truth ty p.gives in
      let parts = and_parts _ _ q.0 in
      subst (λ t. BitFits i t) (one_type a.0 p.s s p.first is) record { within = ltb-true _ _ parts.1; gives = q.1 }

  pub record SliceFits (high low : ℕ) (s : Ty) : Type 0 where
    pub some : low ≤ high
    pub within : high < width_of s
    pub gives : Bv (high - low + 1) ≡ ty

  pub slice_fits : (a : NetId) (high low : ℕ) (s : Ty) → net_in nets n ≡ Some (net.Slice a high low) → type_in nets a.0 ≡ Some s → SliceFits high low s
  slice_fits a high low s at is =
      let p = given1 (λ t. slice_type t high low) (type_at (take n nets.nets.entries) a.0) ty (typed (net.Slice a high low) at) in
      let q = if_some (has_slice high low p.s) (Bv (high - low + 1)) ty p.gives in
      let parts = and_parts _ _ q.0 in
      let ends = and_parts _ _ parts.1 in
      subst (λ t. SliceFits high low t) (one_type a.0 p.s s p.first is)
      record { some = leb-true _ _ ends.0; within = ltb-true _ _ ends.1; gives = q.1 }

  pub concat_fits : (a b : NetId) (s t : Ty) → net_in nets n ≡ Some (net.Concat a b) → type_in nets a.0 ≡ Some s → type_in nets b.0 ≡ Some t →
      Bv (width_of s + width_of t) ≡ ty
  concat_fits a b s t at is other =
      let types = type_at (take n nets.nets.entries) in
      let p = given2 concat_type (types a.0) (types b.0) ty (typed (net.Concat a b) at) in
      let q = if_some (is_vector p.s && (is_vector p.t && has_room p.s p.t)) (Bv (width_of p.s + width_of p.t)) ty p.gives in
      sym (ap₂ (λ u v. Bv (width_of u + width_of v)) (one_type a.0 p.s s p.first is) (one_type b.0 p.t t p.second other)) ∙ q.1
