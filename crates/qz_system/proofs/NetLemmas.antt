-- A test of all nets of a table, net by net.
use Rattle.std.proofs.Common.{◌≡◌, ℕ, zero, suc, ◌+◌, Bool, true, false, List, [], ◌∷◌, drop, Option, Some, None, refl, sym, ap, subst, ◌∙◌, add-one}
use Rattle.std.specs.Prelude.{◌&&◌, slice_get}
use Rattle.std.specs.List.{list_all}
use Rattle.std.proofs.lemmas.Bool.{and_parts}
use Rattle.std.specs.Option.{option_map}
use Rattle.qz_values.specs.declared.Ty.{Ty}
use Rattle.qz_nets.specs.declared.net.Net.{Net}
use Rattle.qz_nets.specs.Tables.{net_at}

module _ (p : Net → Bool) where
  abbrev pub all_nets : List (Net × Ty) → Bool
  all_nets entries = list_all (λ (entry : Net × Ty). p entry.0) entries

  pub next_net : (entries : List (Net × Ty)) (n : ℕ) (net : Net) → net_at entries n ≡ Some net
      → all_nets (drop n entries) ≡ (p net && all_nets (drop (suc n) entries))
  next_net [] n net at = absurd (cc)
  next_net (e ∷ entries) zero net at =
      let same : e.0 ≡ net = cc in ap (λ b. b && all_nets entries) (ap p same)
  next_net (e ∷ entries) (suc n) net at = next_net entries n net at

  pub net_passes : (entries : List (Net × Ty)) (n : ℕ) (net : Net) (b : Bool) → net_at entries n ≡ Some net → b ≡ p net → b ≡ true
      → all_nets (drop n entries) ≡ all_nets entries → all_nets (drop (n + 1) entries) ≡ all_nets entries
  net_passes entries n net b at is holds so_far =
      rw add-one (
      ap (λ c. c && all_nets (drop (suc n) entries)) (sym holds ∙ is) ∙ sym (next_net entries n net at) ∙ so_far
      )

  pub net_fails : (entries : List (Net × Ty)) (n : ℕ) (net : Net) (b : Bool) → net_at entries n ≡ Some net → b ≡ p net → b ≡ false
      → all_nets (drop n entries) ≡ all_nets entries → false ≡ all_nets entries
  net_fails entries n net b at is fails so_far =
      ap (λ c. c && all_nets (drop (suc n) entries)) (sym fails ∙ is) ∙ sym (next_net entries n net at) ∙ so_far

  pub net_at_all : (entries : List (Net × Ty)) → all_nets entries ≡ true → (n : ℕ) (net : Net) → net_at entries n ≡ Some net → p net ≡ true
  net_at_all [] all n net at = absurd (cc)
  net_at_all (e ∷ entries) all zero net at =
      let same : e.0 ≡ net = cc in subst (λ m. p m ≡ true) same (and_parts (p e.0) (all_nets entries) all).0
  net_at_all (e ∷ entries) all (suc n) net at = net_at_all entries (and_parts (p e.0) (all_nets entries) all).1 n net at
