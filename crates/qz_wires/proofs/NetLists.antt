-- Rails of nets, with one more and in a table of wires that grew.
use Rattle.std.proofs.Common.{◌≡◌, ◌⊎◌, inl, inr, ℕ, zero, suc, List, [], ◌∷◌, ◌++◌, length, Some, refl, ap, sym, subst, ◌∙◌}
use Rattle.std.specs.Prelude.{slice_get}
use Rattle.qz_values.specs.declared.Ty.{Ty}
use Rattle.qz_values.specs.declared.Know.{Know}
use Rattle.qz_nets.specs.declared.table.NetTable.{NetTable}
use Rattle.qz_nets.specs.Readings.{type_in}
use Rattle.qz_verilog.specs.Types.{NetTypes}
use Rattle.qz_verilog.specs.Meaning.{Nets}
use Rattle.qz_wires.specs.declared.wires.Wires.{Wires}
use Rattle.qz_wires.specs.declared.rails.Rail.{Rail}
use Rattle.qz_wires.specs.WireTable.{types_in, Extends}
use Rattle.qz_wires.specs.Rails.{Shows, ShowEach, IsRail}
use Rattle.qz_wires.specs.NetRails.{AreLeafRails, AreNetRails}

-- what stands in a list with one more element stood there, or is that element at the end
pub get_pushed : {A : Type 0} (xs : List A) (y : A) (k : ℕ) (x : A) → slice_get (xs ++ y ∷ []) k ≡ Some x →
    (slice_get xs k ≡ Some x) ⊎ ((k ≡ length xs) × (y ≡ x))
get_pushed [] y zero x e = inr (refl, cc)
get_pushed [] y (suc k) x e = absurd (cc)
get_pushed (z ∷ xs) y zero x e = inl e
get_pushed (z ∷ xs) y (suc k) x e = elim (get_pushed xs y k x e) [ inl h ↦ inl h | inr h ↦ inr (ap suc h.0, h.1) ]

pub show_more : (nets : Nets) (rails : List Rail) (rail : Rail) (know : ℕ → Know) → ShowEach nets rails know
    → Shows nets rail (know (length rails)) → ShowEach nets (rails ++ rail ∷ []) know
show_more nets rails rail know each last = λ n r at. by n r (get_pushed rails rail n r at)
  where
    by : (n : ℕ) (r : Rail) → (slice_get rails n ≡ Some r) ⊎ ((n ≡ length rails) × (rail ≡ r)) → Shows nets r (know n)
    by n r (inl old) = each n r old
    by n r (inr here) = rw (here.0, ← here.1) last

pub net_rails_more : (types : NetTypes) (nets : NetTable) (rails : List Rail) (rail : Rail) → AreNetRails types nets rails
    → ((ty : Ty) → type_in nets (length rails) ≡ Some ty → IsRail types ty rail) → AreNetRails types nets (rails ++ rail ∷ [])
net_rails_more types nets rails rail are here = record { each = λ n ty r is at. by n ty r is (get_pushed rails rail n r at) }
  where
    by : (n : ℕ) (ty : Ty) (r : Rail) → type_in nets n ≡ Some ty → (slice_get rails n ≡ Some r) ⊎ ((n ≡ length rails) × (rail ≡ r)) → IsRail types ty r
    by n ty r is (inl old) = are.each n ty r is old
    by n ty r is (inr last) = subst (IsRail types ty) last.1 (here ty (ap (type_in nets) (sym last.0) ∙ is))

module _ {a b : Wires} (extends : Extends a b) where
  pub rail_kept : {ty : Ty} {rail : Rail} → IsRail (types_in a) ty rail → IsRail (types_in b) ty rail
  rail_kept {ty = ty} {rail = rail} is = record {
    of_type = is.of_type;
    known_net = extends.types rail.known _ is.known_net;
    value_net = extends.types rail.value ty is.value_net;
  }

  pub net_rails_kept : {nets : NetTable} {rails : List Rail} → AreNetRails (types_in a) nets rails → AreNetRails (types_in b) nets rails
  net_rails_kept are = record { each = λ n ty rail is at. rail_kept (are.each n ty rail is at) }

  pub leaf_rails_kept : {nets : NetTable} {leaves : List Rail} → AreLeafRails (types_in a) nets leaves → AreLeafRails (types_in b) nets leaves
  leaf_rails_kept are = record {
    each = λ n number ty at.
        let one = are.each n number ty at in record { rail = one.rail; is = one.is; fits = rail_kept one.fits };
  }
