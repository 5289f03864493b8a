-- What a reading of a table knows: of its type, the same for all, and found net by net.
use Rattle.std.proofs.Common.{◌≡◌, ℕ, zero, suc, ◌+◌, ◌<◌, ◌≤◌, List, length, take, slice_get, set, get_or, Some, None, refl, sym, ap, subst, ◌∙◌, ◌⊎◌, inl, inr, arith}
use Rattle.std.specs.Option.{option_map}
use Rattle.std.proofs.lemmas.List.{length-set, get_or-set_same, get_or-set_other}
use Rattle.std.proofs.lemmas.Option.{slice_get_within, slice_get_cases}
use Rattle.qz_values.specs.declared.Ty.{Ty}
use Rattle.qz_values.specs.declared.Know.{Know}
use Rattle.qz_values.specs.declared.Know.TheVariants.{Unknown}
use Rattle.qz_values.specs.Fits.{HasType}
use Rattle.qz_nets.specs.declared.net.Net.{Net}
use Rattle.qz_nets.specs.declared.net.Net.TheVariants as net
use Rattle.qz_nets.specs.Nets.{net_type, net_know}
use Rattle.qz_nets.specs.Tables.{net_at, type_at, AreNets}
use Rattle.qz_nets.specs.Readings.{listed, CanBeRead}
use Rattle.qz_nets.proofs.Typing.{net_typed, net_same}
use Rattle.qz_nets.proofs.Growing.{entry_of_net, entry_of_type, type_take, pair}

-- knowledge of leaves of their types
abbrev LeavesFit : List (Net × Ty) → (ℕ → Know) → Type 0
LeavesFit entries leaf = (n number : ℕ) (ty : Ty) → net_at entries n ≡ Some (net.Leaf number ty) → HasType ty (leaf number)

-- what stands at a place, as a net
pub net_there : (entries : List (Net × Ty)) (n : ℕ) (m : Net) (ty : Ty) → slice_get entries n ≡ Some (m, ty) → net_at entries n ≡ Some m
net_there entries n m ty at = ap (option_map (λ (e : Net × Ty). e.0)) at

pub type_there : (entries : List (Net × Ty)) (n : ℕ) (m : Net) (ty : Ty) → slice_get entries n ≡ Some (m, ty) → type_at entries n ≡ Some ty
type_there entries n m ty at = ap (option_map (λ (e : Net × Ty). e.1)) at

module _ (entries : List (Net × Ty)) (nets : AreNets entries) where
  leaf_there : (n : ℕ) (m : Net) (ty : Ty) → slice_get entries n ≡ Some (m, ty) → (leaf : ℕ → Know) → LeavesFit entries leaf →
      (number : ℕ) (t : Ty) → m ≡ net.Leaf number t → HasType t (leaf number)
  leaf_there n m ty at leaf leaves number t is = leaves n number t (net_there entries n m ty at ∙ ap Some is)

  module _ (leaf know : ℕ → Know) (leaves : LeavesFit entries leaf)
      (solves : (n : ℕ) (m : Net) → net_at entries n ≡ Some m → know n ≡ net_know leaf know m) where
    typed_below : (k n : ℕ) → n < k → (ty : Ty) → type_at entries n ≡ Some ty → HasType ty (know n)
    typed_below zero n below ty is = absurd (omega (arith, below))
    typed_below (suc k) n below ty is =
        let e = entry_of_type (slice_get entries n) ty is in
        let all = net_typed (type_at (take n entries)) leaf know
        (λ j t h. let p = type_take entries n j t h in typed_below k j (omega (arith, below, p.0)) t p.1)
        e.0 ty (leaf_there n e.0 ty e.1 leaf leaves) (nets.typed n e.0 ty e.1) in
        rw (solves n e.0 (net_there entries n e.0 ty e.1)) all

    -- what a reading knows of a net is of its type
    pub reading_typed : (n : ℕ) (ty : Ty) → type_at entries n ≡ Some ty → HasType ty (know n)
    reading_typed n ty is = typed_below (suc n) n (omega arith) ty is

  module _ (leaf know other_leaf other : ℕ → Know)
      (solves : (n : ℕ) (m : Net) → net_at entries n ≡ Some m → know n ≡ net_know leaf know m)
      (others : (n : ℕ) (m : Net) → net_at entries n ≡ Some m → other n ≡ net_know other_leaf other m)
      (same : (n number : ℕ) (ty : Ty) → net_at entries n ≡ Some (net.Leaf number ty) → leaf number ≡ other_leaf number) where
    same_below : (k n : ℕ) → n < k → (m : Net) (ty : Ty) → slice_get entries n ≡ Some (m, ty) → know n ≡ other n
    same_below zero n below m ty at = absurd (omega (arith, below))
    same_below (suc k) n below m ty at =
        let there = net_there entries n m ty at in
        let all = net_same (type_at (take n entries)) leaf other_leaf know other
        (λ j t h. let p = type_take entries n j t h in let e = entry_of_type (slice_get entries j) t p.1 in same_below k j (omega (arith, below, p.0)) e.0 t e.1)
        m ty (λ number t is. same n number t (there ∙ ap Some is)) (nets.typed n m ty at) in
        solves n m there ∙ all ∙ sym (others n m there)

    pub readings_same : (n : ℕ) → n < length entries → know n ≡ other n
    readings_same n below = by (slice_get_cases entries n).1
      where
        by : ((e : Net × Ty) × (n < length entries) × (slice_get entries n ≡ Some e) × (get_or entries n e ≡ e)) ⊎
            ((length entries ≤ n) × (slice_get entries n ≡ None)) → know n ≡ other n
        by (inl h) = same_below (suc n) n (omega arith) h.0.0 h.0.1 h.2
        by (inr h) = absurd (omega (arith, below, h.0))

  -- the first nets are known
  pub record First (leaf : ℕ → Know) (values : List Know) (count : ℕ) : Type 0 where
    pub room : length values ≡ length entries
    pub solved : (n : ℕ) (m : Net) → n < count → net_at entries n ≡ Some m → listed values n ≡ net_know leaf (listed values) m
    pub typed : (n : ℕ) (ty : Ty) → n < count → type_at entries n ≡ Some ty → HasType ty (listed values n)

  module _ (leaf : ℕ → Know) (leaves : LeavesFit entries leaf) (values : List Know) (count : ℕ) (known : First leaf values count)
      (m : Net) (at : net_at entries count ≡ Some m) where
    -- the next net can be read
    pub next_read : CanBeRead leaf (listed values) m
    next_read = let e = entry_of_net (slice_get entries count) m at in record {
      types = type_at (take count entries);
      operands = λ n ty is. let p = type_take entries count n ty is in known.typed n ty p.0 p.1;
      ty = e.0;
      typed = nets.typed count m e.0 e.1;
    }

    module _ (k : Know) (is : k ≡ net_know leaf (listed values) m) where
      other_place : (n : ℕ) → n < count → listed (set values count k) n ≡ listed values n
      other_place n below = get_or-set_other values count n k Unknown (λ e. omega (arith, below, e))

      this_place : listed (set values count k) count ≡ k
      this_place =
          let e = entry_of_net (slice_get entries count) m at in
          let within = slice_get_within entries count (m, e.0) e.1 in
          get_or-set_same values count k Unknown (rw known.room within)

      -- a net that is at most the next reads the same as before
      reads_same : (n : ℕ) → n < count + 1 → (l : Net) (ty : Ty) → slice_get entries n ≡ Some (l, ty) →
          net_know leaf (listed values) l ≡ net_know leaf (listed (set values count k)) l
      reads_same n below l ty there =
          net_same (type_at (take n entries)) leaf leaf (listed values) (listed (set values count k))
          (λ j t h. let p = type_take entries n j t h in sym (other_place j (omega (arith, below, p.0))))
          l ty (λ number t e. refl) (nets.typed n l ty there)

      place : (n : ℕ) → n < count + 1 → (n < count) ⊎ (n ≡ count)
      place n below = grind arith

      solved : (n : ℕ) (l : Net) (ty : Ty) → n < count + 1 → slice_get entries n ≡ Some (l, ty) → (n < count) ⊎ (n ≡ count) →
          listed (set values count k) n ≡ net_know leaf (listed (set values count k)) l
      solved n l ty below there (inl less) =
          other_place n less ∙ known.solved n l less (net_there entries n l ty there) ∙ reads_same n below l ty there
      solved n l ty below there (inr here) =
          let net : Some l ≡ Some m = sym (net_there entries n l ty there) ∙ ap (net_at entries) here ∙ at in
          let same : l ≡ m = cc in
          ap (listed (set values count k)) here ∙ this_place ∙ is ∙ ap (net_know leaf (listed values)) (sym same) ∙ reads_same n below l ty there

      typed : (n : ℕ) (ty : Ty) → type_at entries n ≡ Some ty → (n < count) ⊎ (n ≡ count) → HasType ty (listed (set values count k) n)
      typed n ty there (inl less) = rw (other_place n less) (known.typed n ty less there)
      typed n ty there (inr here) =
          let e = entry_of_type (slice_get entries n) ty there in
          let net : Some e.0 ≡ Some m = sym (net_there entries n e.0 ty e.1) ∙ ap (net_at entries) here ∙ at in
          let same : e.0 ≡ m = cc in
          let read = next_read in
          let fits : net_type (type_at (take n entries)) m ≡ Some ty = subst (λ x. net_type (type_at (take n entries)) x ≡ Some ty) same (nets.typed n e.0 ty e.1) in
          let all = net_typed (type_at (take n entries)) leaf (listed values)
          (λ j t h. let p = type_take entries n j t h in known.typed j t (omega (arith, here, p.0)) p.1)
          m ty (leaf_there n m ty (e.1 ∙ ap (λ x. Some (pair x ty)) same) leaf leaves) fits in
          rw (here, this_place, is) all

      -- and is then known too
      pub next_known : First leaf (set values count k) (count + 1)
      next_known = record {
        room = length-set values count k ∙ known.room;
        solved = λ n l below there. let e = entry_of_net (slice_get entries n) l there in solved n l e.0 below e.1 (place n below);
        typed = λ n ty below there. typed n ty there (place n below);
      }

-- knowledge of the leaves among the first nets is of their types
pub record FirstFit (entries : List (Net × Ty)) (leaf : ℕ → Know) (count : ℕ) : Type 0 where
  pub each : (n number : ℕ) (ty : Ty) → n < count → net_at entries n ≡ Some (net.Leaf number ty) → HasType ty (leaf number)
