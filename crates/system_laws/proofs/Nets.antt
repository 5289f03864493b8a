-- What is known of the nets of a table rises with what is known of the leaves, and there is such knowledge.
use Rattle.std.proofs.Common.{◌≡◌, ℕ, zero, suc, ◌<◌, List, length, take, Option, Some, None, refl, sym, ap, subst, ◌∙◌, arith}
use Rattle.std.specs.Prelude.{slice_get}
use Rattle.std.specs.Option.{option_map, option_map_or}
use Rattle.std.proofs.lemmas.Option.{slice_get_within}
use Rattle.qz_values.specs.declared.Ty.{Ty}
use Rattle.qz_values.specs.declared.Know.{Know}
use Rattle.qz_values.specs.declared.Know.TheVariants.{Unknown}
use Rattle.qz_values.specs.Order.{Below}
use Rattle.qz_values.specs.Tables.{type1_of, type2_of, choose_type, bit_type, slice_type, concat_type}
use Rattle.qz_values.proofs.Given.{given1, given2, given3}
use Rattle.qz_values.proofs.Monotone.{Below-self, same_from_Below, monotone1, monotone2, monotone_choose, monotone_bit, monotone_slice, monotone_concat}
use Rattle.qz_nets.specs.declared.net.Net.{Net}
use Rattle.qz_nets.specs.declared.net.Net.TheVariants as net
use Rattle.qz_nets.specs.Nets.{net_type, net_know}
use Rattle.qz_nets.specs.Tables.{net_at, type_at, AreNets}
use Rattle.qz_system.proofs.Reading.{entry_of, type_before}

-- one net, whose operands are known no less
module _ (types : ℕ → Option Ty) (leaf more know other : ℕ → Know) (up : (n : ℕ) (ty : Ty) → types n ≡ Some ty → Below (know n) (other n)) where
  net_up : (n : Net) (u : Ty) → ((number : ℕ) (ty : Ty) → n ≡ net.Leaf number ty → Below (leaf number) (more number))
      → net_type types n ≡ Some u → Below (net_know leaf know n) (net_know more other n)
  net_up (net.Const v) u leaves h = refl
  net_up (net.Leaf number ty) u leaves h = leaves number ty refl
  net_up (net.Un op a) u leaves h = let p = given1 (type1_of op) (types a.0) u h in monotone1 op _ _ (up a.0 p.s p.first)
  net_up (net.Bin op a b) u leaves h =
      let p = given2 (type2_of op) (types a.0) (types b.0) u h in
      monotone2 op _ _ _ _ (up a.0 p.s p.first) (up b.0 p.t p.second)
  net_up (net.Choose c a b) u leaves h =
      let p = given3 choose_type (types c.0) (types a.0) (types b.0) u h in
      monotone_choose _ _ _ _ _ _ (up c.0 p.r p.first) (up a.0 p.s p.second) (up b.0 p.t p.third)
  net_up (net.Bit a i) u leaves h = let p = given1 (λ t. bit_type t i) (types a.0) u h in monotone_bit i _ _ (up a.0 p.s p.first)
  net_up (net.Slice a high low) u leaves h =
      let p = given1 (λ t. slice_type t high low) (types a.0) u h in
      monotone_slice high low _ _ (up a.0 p.s p.first)
  net_up (net.Concat a b) u leaves h =
      let p = given2 concat_type (types a.0) (types b.0) u h in
      monotone_concat _ _ _ _ (up a.0 p.s p.first) (up b.0 p.t p.second)

-- a net of an entry, and the entry
net_there : (entries : List (Net × Ty)) (n : ℕ) (m : Net) (ty : Ty) → slice_get entries n ≡ Some (m, ty) → net_at entries n ≡ Some m
net_there entries n m ty at = ap (option_map (λ (e : Net × Ty). e.0)) at

entry_by_net : (o : Option (Net × Ty)) (n : Net) → option_map (λ (e : Net × Ty). e.0) o ≡ Some n → (ty : Ty) × (o ≡ Some (n, ty))
entry_by_net None n h = absurd (cc)
entry_by_net (Some e) n h = (e.1, let same : e.0 ≡ n = cc in λ i. Some (same i, e.1))

module _ (entries : List (Net × Ty)) (nets : AreNets entries) where
  module _ (leaf more know other : ℕ → Know)
      (solves : (n : ℕ) (m : Net) → net_at entries n ≡ Some m → know n ≡ net_know leaf know m)
      (others : (n : ℕ) (m : Net) → net_at entries n ≡ Some m → other n ≡ net_know more other m)
      (leaves : (n number : ℕ) (ty : Ty) → net_at entries n ≡ Some (net.Leaf number ty) → Below (leaf number) (more number)) where
    up_below : (k n : ℕ) → n < k → (ty : Ty) → type_at entries n ≡ Some ty → Below (know n) (other n)
    up_below zero n below ty is = absurd (omega (arith, below))
    up_below (suc k) n below ty is =
        let e = entry_of (slice_get entries n) ty is in
        let there : net_at entries n ≡ Some e.0 = net_there entries n e.0 ty e.1 in
        let all = net_up (type_at (take n entries)) leaf more know other
        (λ j t h. let p = type_before entries n j t h in up_below k j (omega (arith, below, p.0)) t p.1)
        e.0 ty (λ number t same. leaves n number t (there ∙ ap Some same)) (nets.typed n e.0 ty e.1) in
        rw (solves n e.0 there, others n e.0 there) all

    -- no net is known less where no leaf is
    pub nets_up : (n : ℕ) (ty : Ty) → type_at entries n ≡ Some ty → Below (know n) (other n)
    nets_up n ty is = up_below (suc n) n (omega arith) ty is

  module _ (leaf : ℕ → Know) where
    -- what is known of a net after so many steps, where at first nothing is known
    abbrev step_of : (ℕ → Know) → ℕ → Know
    step_of know n = option_map_or (λ m. net_know leaf know m) (net_at entries n) Unknown

    abbrev after_steps : ℕ → ℕ → Know
    after_steps zero = λ n. Unknown
    after_steps (suc k) = step_of (after_steps k)

    step_at : (know : ℕ → Know) (n : ℕ) (m : Net) → net_at entries n ≡ Some m → step_of know n ≡ net_know leaf know m
    step_at know n m at = ap (λ o. option_map_or (λ m. net_know leaf know m) o Unknown) at

    -- a net is known as it will be after as many steps as come before it
    steady : (k n : ℕ) → n < k → (ty : Ty) → type_at entries n ≡ Some ty → after_steps k n ≡ after_steps (suc k) n
    steady zero n below ty is = absurd (omega (arith, below))
    steady (suc k) n below ty is =
        let e = entry_of (slice_get entries n) ty is in
        let there : net_at entries n ≡ Some e.0 = net_there entries n e.0 ty e.1 in
        let before : (j : ℕ) (t : Ty) → type_at (take n entries) j ≡ Some t → after_steps k j ≡ after_steps (suc k) j = λ j t h.
        let p = type_before entries n j t h in steady k j (omega (arith, below, p.0)) t p.1 in
        let up = net_up (type_at (take n entries)) leaf leaf (after_steps k) (after_steps (suc k))
        (λ j t h. subst (Below (after_steps k j)) (before j t h) (Below-self _)) e.0 ty (λ number t same. Below-self _) (nets.typed n e.0 ty e.1) in
        let down = net_up (type_at (take n entries)) leaf leaf (after_steps (suc k)) (after_steps k)
        (λ j t h. subst (Below (after_steps (suc k) j)) (sym (before j t h)) (Below-self _)) e.0 ty (λ number t same. Below-self _) (nets.typed n e.0 ty e.1) in
        step_at (after_steps k) n e.0 there ∙ same_from_Below _ _ up down ∙ sym (step_at (after_steps (suc k)) n e.0 there)

    -- knowledge that satisfies each net
    pub solution : ℕ → Know
    solution = after_steps (length entries)

    pub solution_solves : (n : ℕ) (m : Net) → net_at entries n ≡ Some m → solution n ≡ net_know leaf solution m
    unfolding solution
    solution_solves n m at =
        let e = entry_by_net (slice_get entries n) m at in
        let within = slice_get_within entries n (m, e.0) e.1 in
        steady (length entries) n within e.0 (ap (option_map (λ (x : Net × Ty). x.1)) e.1) ∙ step_at (after_steps (length entries)) n m at
