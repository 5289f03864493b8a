-- A table of nets with one more net.
use Rattle.std.proofs.Common.{◌≡◌, ℕ, zero, suc, ◌<◌, ◌≤◌, max, Bool, true, false, List, [], ◌∷◌, ◌++◌, length, take, slice_get, Option, Some, None, Result, Ok, Err, OnOk, OnErr, refl, sym, ap, subst, ◌∙◌, ◌⊎◌, inl, inr, arith, if◌then◌else◌}
use Rattle.std.specs.List.{position_or_len}
use Rattle.std.specs.Option.{option_map}
use Rattle.std.specs.Map.{keys_of}
use Rattle.std.proofs.lemmas.List.{length_push, take-append-le}
use Rattle.std.proofs.Math.Seq.{take-append_seam}
use Rattle.std.proofs.lemmas.Option.{slice_get_within}
use Rattle.indexmap.specs.IndexMap.{IndexMap, insert_entry, IsUnchanged}
use Rattle.qz_values.specs.declared.Ty.{Ty}
use Rattle.qz_nets.specs.declared.net.Net.{Net}
use Rattle.qz_nets.specs.declared.table.NetTable.{NetTable}
use Rattle.qz_nets.specs.Nets.{net_type}
use Rattle.qz_nets.specs.Tables.{net_at, type_at, AreNets}
use Rattle.qz_nets.specs.Readings.{Extends}
use Rattle.qz_nets.proofs.Lists.{get_take, get_longer, get_last, get_pushed}
use Rattle.qz_nets.proofs.Typing.{net_type_more}

-- an entry by its net, and by its type
pub entry_of_net : (o : Option (Net × Ty)) (n : Net) → option_map (λ (e : Net × Ty). e.0) o ≡ Some n → (ty : Ty) × (o ≡ Some (n, ty))
entry_of_net None n h = absurd (cc)
entry_of_net (Some e) n h = (e.1, let same : e.0 ≡ n = cc in λ i. Some (same i, e.1))

pub entry_of_type : (o : Option (Net × Ty)) (ty : Ty) → option_map (λ (e : Net × Ty). e.1) o ≡ Some ty → (n : Net) × (o ≡ Some (n, ty))
entry_of_type None ty h = absurd (cc)
entry_of_type (Some e) ty h = (e.0, let same : e.1 ≡ ty = cc in λ i. Some (e.0, same i))

-- what an insertion comes to: the net is there, with some type, or it goes last
data Outcome (entries : List (Net × Ty)) (n : Net) (ty : Ty) (after : List (Net × Ty)) (index : ℕ) : Type 0 where
  found : (old : Ty) → slice_get entries index ≡ Some (n, old) → (old ≡ ty → after ≡ entries) → Outcome entries n ty after index
  absent : after ≡ entries ++ (n, ty) ∷ [] → index ≡ length entries → ((i : ℕ) (old : Ty) → slice_get entries i ≡ Some (n, old) → ⊥) →
      Outcome entries n ty after index

module _ (eq : Net → Net → Bool) (same : (x y : Net) → eq x y ≡ true → x ≡ y) (reflexive : (x : Net) → eq x x ≡ true) where
  insertion : (entries : List (Net × Ty)) (n : Net) (ty : Ty) →
      Outcome entries n ty (insert_entry eq entries n ty) (position_or_len (eq n) (keys_of entries))
  insertion [] n ty = absent refl refl (λ i old h. absurd (cc))
  insertion (e ∷ es) n ty = by (eq n e.0) refl (insertion es n ty)
    where
      list_is : eq n e.0 ≡ false → insert_entry eq (e ∷ es) n ty ≡ e ∷ insert_entry eq es n ty
      list_is is = ap (λ b. if b then (e.0, ty) ∷ es else e ∷ insert_entry eq es n ty) is

      place_is : eq n e.0 ≡ false → position_or_len (eq n) (keys_of (e ∷ es)) ≡ suc (position_or_len (eq n) (keys_of es))
      place_is is = rw is (omega arith)

      first : (i : ℕ) (old : Ty) → eq n e.0 ≡ false → slice_get (e ∷ es) i ≡ Some (n, old) → ((i : ℕ) (old : Ty) → slice_get es i ≡ Some (n, old) → ⊥) → ⊥
      first zero old is h none = let key : e.0 ≡ n = cc in let t : eq n e.0 ≡ true = subst (λ x. eq n x ≡ true) (sym key) (reflexive n) in cc
      first (suc i) old is h none = none i old h

      more : (after : List (Net × Ty)) (index : ℕ) → eq n e.0 ≡ false → Outcome es n ty after index → Outcome (e ∷ es) n ty (e ∷ after) (suc index)
      more after index is (found old at stays) = found old at (λ t. ap (λ l. e ∷ l) (stays t))
      more after index is (absent list place none) = absent (ap (λ l. e ∷ l) list) (ap suc place) (λ i old h. first i old is h none)

      by : (b : Bool) → eq n e.0 ≡ b → Outcome es n ty (insert_entry eq es n ty) (position_or_len (eq n) (keys_of es)) →
          Outcome (e ∷ es) n ty (insert_entry eq (e ∷ es) n ty) (position_or_len (eq n) (keys_of (e ∷ es)))
      by true is rest =
          let key : n ≡ e.0 = same n e.0 is in
          rw is (found e.1 (λ i. Some (sym key i, e.1)) (λ t. λ i. (e.0, sym t i) ∷ es))
      by false is rest =
          subst (λ l. Outcome (e ∷ es) n ty l (position_or_len (eq n) (keys_of (e ∷ es)))) (sym (list_is is))
          (subst (λ i. Outcome (e ∷ es) n ty (e ∷ insert_entry eq es n ty) i) (sym (place_is is)) (more _ _ is rest))

abbrev pub pair : Net → Ty → Net × Ty
pair n ty = (n, ty)

-- a table that has the net under this number, and all that was there
pub record Grown (old new : List (Net × Ty)) (n : Net) (ty : Ty) (index : ℕ) : Type 0 where
  pub nets : AreNets new
  pub longer : length old ≤ length new
  pub keeps : (k : ℕ) (e : Net × Ty) → slice_get old k ≡ Some e → slice_get new k ≡ Some e
  pub is : slice_get new index ≡ Some (n, ty)
  pub count : length new ≡ max (length old) (suc index)

-- types of a first part are types of the list
pub type_take : (entries : List (Net × Ty)) (k j : ℕ) (ty : Ty) → type_at (take k entries) j ≡ Some ty → (j < k) × (type_at entries j ≡ Some ty)
type_take entries k j ty h =
    let e = entry_of_type (slice_get (take k entries) j) ty h in
    let there = get_take k entries j (e.0, ty) e.1 in
    (there.0, ap (option_map (λ (x : Net × Ty). x.1)) there.1)

module _ (entries : List (Net × Ty)) (nets : AreNets entries) (n : Net) (ty : Ty) (fits : net_type (type_at entries) n ≡ Some ty) where
  one_type : (index : ℕ) (old : Ty) → slice_get entries index ≡ Some (n, old) → old ≡ ty
  one_type index old at =
      let was = net_type_more (type_at (take index entries)) (type_at entries) (λ j t h. (type_take entries index j t h).1) n old (nets.typed index n old at) in
      let same : Some old ≡ Some ty = sym was ∙ fits in cc

  pushed : ((i : ℕ) (old : Ty) → slice_get entries i ≡ Some (n, old) → ⊥) → AreNets (entries ++ (n, ty) ∷ [])
  pushed none = record {
    typed = λ k m t h. typed k m t h (get_pushed entries (n, ty) k (m, t) h);
    once = λ i j m h f. once i j m (entry_of_net _ m h) (entry_of_net _ m f);
  }
    where
      typed : (k : ℕ) (m : Net) (t : Ty) → slice_get (entries ++ (n, ty) ∷ []) k ≡ Some (m, t) →
          (slice_get entries k ≡ Some (m, t)) ⊎ ((k ≡ length entries) × (pair n ty ≡ pair m t)) →
          net_type (type_at (take k (entries ++ (n, ty) ∷ []))) m ≡ Some t
      typed k m t h (inl old) =
          let within = slice_get_within entries k (m, t) old in
          rw (take-append-le k entries ((n, ty) ∷ []) (omega (arith, within))) (nets.typed k m t old)
      typed k m t h (inr last) =
          let net : n ≡ m = ap (λ (e : Net × Ty). e.0) last.1 in
          let type : ty ≡ t = ap (λ (e : Net × Ty). e.1) last.1 in
          rw (last.0, take-append_seam entries ((n, ty) ∷ []), ← net, ← type) fits

      once : (i j : ℕ) (m : Net) → (t : Ty) × (slice_get (entries ++ (n, ty) ∷ []) i ≡ Some (m, t)) → (t : Ty) × (slice_get (entries ++ (n, ty) ∷ []) j ≡ Some (m, t)) → i ≡ j
      once i j m h f = by (get_pushed entries (n, ty) i (m, h.0) h.1) (get_pushed entries (n, ty) j (m, f.0) f.1)
        where
          by : (slice_get entries i ≡ Some (m, h.0)) ⊎ ((i ≡ length entries) × (pair n ty ≡ pair m h.0)) →
              (slice_get entries j ≡ Some (m, f.0)) ⊎ ((j ≡ length entries) × (pair n ty ≡ pair m f.0)) → i ≡ j
          by (inl x) (inl y) = nets.once i j m (ap (option_map (λ (e : Net × Ty). e.0)) x) (ap (option_map (λ (e : Net × Ty). e.0)) y)
          by (inl x) (inr y) = let net : n ≡ m = ap (λ (e : Net × Ty). e.0) y.1 in absurd (none i h.0 (rw net x))
          by (inr x) (inl y) = let net : n ≡ m = ap (λ (e : Net × Ty). e.0) x.1 in absurd (none j f.0 (rw net y))
          by (inr x) (inr y) = x.0 ∙ sym y.0

  grown : (after : List (Net × Ty)) (index : ℕ) → Outcome entries n ty after index → Grown entries after n ty index
  grown after index (found old at stays) =
      let type = one_type index old at in
      let is = stays type in
      let within = slice_get_within entries index (n, old) at in
      subst (λ l. Grown entries l n ty index) (sym is) record {
        nets = nets;
        longer = omega arith;
        keeps = λ k e h. h;
        is = rw (← type) at;
        count = omega (arith, within);
      }
  grown after index (absent is here none) =
      subst (λ l. Grown entries l n ty index) (sym is) record {
        nets = pushed none;
        longer = omega (arith, length_push entries (n, ty));
        keeps = λ k e h. get_longer entries ((n, ty) ∷ []) k e h;
        is = rw here (get_last entries (n, ty));
        count = omega (arith, length_push entries (n, ty), here);
      }

pub inserted : (eq : Net → Net → Bool) → ((x y : Net) → eq x y ≡ true → x ≡ y) → ((x : Net) → eq x x ≡ true) →
    (entries : List (Net × Ty)) → AreNets entries → (n : Net) (ty : Ty) → net_type (type_at entries) n ≡ Some ty →
    Grown entries (insert_entry eq entries n ty) n ty (position_or_len (eq n) (keys_of entries))
inserted eq same reflexive entries nets n ty fits =
    grown entries nets n ty fits (insert_entry eq entries n ty) (position_or_len (eq n) (keys_of entries)) (insertion eq same reflexive entries n ty)

-- the grown table extends the older one
pub grown_extends : (old new : NetTable) (n : Net) (ty : Ty) (index : ℕ) → Grown old.nets.entries new.nets.entries n ty index → Extends old new
grown_extends old new n ty index grown = record {
  longer = grown.longer;
  nets = nets;
  types = λ k t h. let e = entry_of_type (slice_get old.nets.entries k) t h in ap (option_map (λ (x : Net × Ty). x.1)) (grown.keeps k (e.0, t) e.1);
  reads = λ v reads. record { leaves = λ k number t h. reads.leaves k number t (nets k _ h); nets = λ k m h. reads.nets k m (nets k m h) };
}
  where
    nets : (k : ℕ) (m : Net) → net_at old.nets.entries k ≡ Some m → net_at new.nets.entries k ≡ Some m
    nets k m h = let e = entry_of_net (slice_get old.nets.entries k) m h in ap (option_map (λ (x : Net × Ty). x.0)) (grown.keeps k (m, e.0) e.1)

module _ {A E S : Type 0} (eq : Net → Net → Bool) (same : (x y : Net) → eq x y ≡ true → x ≡ y) (reflexive : (x : Net) → eq x x ≡ true)
    (old new : IndexMap Net Ty S) (nets : AreNets old.entries) (n : Net) (ty : Ty) (fits : net_type (type_at old.entries) n ≡ Some ty) where
  -- an insertion, whether memory ran out or not, leaves nets
  pub kept : (r : Result A E) → OnOk r (new.entries ≡ insert_entry eq old.entries n ty) → OnErr r (IsUnchanged old new) → AreNets new.entries
  kept (Ok x) is unchanged = rw is (inserted eq same reflexive old.entries nets n ty fits).nets
  kept (Err x) is unchanged = rw unchanged nets
