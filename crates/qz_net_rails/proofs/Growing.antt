-- Rails as the table of diagrams grows, and rails with one more.
use Rattle.std.proofs.Common.{◌≡◌, ℕ, zero, suc, ◌<◌, ◌≤◌, List, [], ◌∷◌, ◌++◌, length, slice_get, get_or, Some, refl, sym, ap, subst, ◌∙◌, ◌⊎◌, inl, inr, ⊎_elim, arith}
use Rattle.qz_dd.specs.declared.table.Table.{Table}
use Rattle.qz_dd.specs.Tables.{Extends}
use Rattle.qz_values.specs.declared.Ty.{Ty}
use Rattle.qz_nets.specs.declared.table.NetTable.{NetTable}
use Rattle.qz_nets.specs.Readings.{type_in}
use Rattle.qz_rails.specs.declared.rail.Rail.{Rail}
use Rattle.qz_rails.specs.Rails.{IsRail}
use Rattle.qz_net_rails.specs.NetRails.{HasRail, AreLeafRails, IsNetRail, AreNetRails}

pub rail_grows : (old new : Table) (ty : Ty) (rail : Rail) → Extends old new → IsRail old ty rail → IsRail new ty rail
rail_grows old new ty rail grows is =
    let longer = grows.longer in
    record {
      clash = omega (arith, is.clash, longer);
      known = omega (arith, is.known, longer);
      bits = λ k d below. let small = is.bits k d below in omega (arith, small, longer);
      width = is.width;
    }

pub leaves_grow : (old new : Table) (nets : NetTable) (leaves : List Rail) → Extends old new → AreLeafRails old nets leaves → AreLeafRails new nets leaves
leaves_grow old new nets leaves grows all = record {
  each = λ n number ty at. let one = all.each n number ty at in
      record { rail = one.rail; is = one.is; fits = rail_grows old new ty one.rail grows one.fits };
}

pub net_rail_grows : (old new : Table) (nets : NetTable) (leaves : List Rail) (n : ℕ) (ty : Ty) (rail : Rail) → Extends old new →
    IsNetRail old nets leaves n ty rail → IsNetRail new nets leaves n ty rail
net_rail_grows old new nets leaves n ty rail grows is = record {
  fits = rail_grows old new ty rail grows is.fits;
  says = λ reading reads v on said. is.says reading (grows.reads reading reads) v on said;
}

pub rails_grow : (old new : Table) (nets : NetTable) (leaves rails : List Rail) → Extends old new → AreNetRails old nets leaves rails → AreNetRails new nets leaves rails
rails_grow old new nets leaves rails grows all = record {
  each = λ n ty rail type at. net_rail_grows old new nets leaves n ty rail grows (all.each n ty rail type at);
}

-- what stands in a list with one more element stood there, or is that element at the end
get_pushed : (xs : List Rail) (y : Rail) (k : ℕ) (x : Rail) → slice_get (xs ++ y ∷ []) k ≡ Some x →
    (slice_get xs k ≡ Some x) ⊎ ((k ≡ length xs) × (y ≡ x))
get_pushed [] y zero x e = inr (refl, cc)
get_pushed [] y (suc k) x e = absurd cc
get_pushed (z ∷ xs) y zero x e = inl e
get_pushed (z ∷ xs) y (suc k) x e = elim (get_pushed xs y k x e) [ inl h ↦ inl h | inr h ↦ inr (ap suc h.0, h.1) ]

pub one_more : (table : Table) (nets : NetTable) (leaves rails : List Rail) (rail : Rail) → AreNetRails table nets leaves rails →
    ((ty : Ty) → type_in nets (length rails) ≡ Some ty → IsNetRail table nets leaves (length rails) ty rail) →
    AreNetRails table nets leaves (rails ++ rail ∷ [])
one_more table nets leaves rails rail all here = record {
  each = λ n ty r type at. ⊎_elim
      (λ (old : slice_get rails n ≡ Some r). all.each n ty r type old)
      (λ (new : (n ≡ length rails) × (rail ≡ r)).
      subst (λ x. IsNetRail table nets leaves n ty x) new.1
      (subst (λ m. IsNetRail table nets leaves m ty rail) (sym new.0) (here ty (sym (ap (type_in nets) new.0) ∙ type))))
      (get_pushed rails rail n r at);
}

-- the element that an index reads
pub there : (xs : List Rail) (k : ℕ) (x : Rail) → k < length xs → x ≡ get_or xs k x → slice_get xs k ≡ Some x
there [] k x below is = absurd (omega arith)
there (y ∷ xs) zero x below is = ap (λ z. Some z) (sym is)
there (y ∷ xs) (suc k) x below is = there xs k x (omega arith) is
