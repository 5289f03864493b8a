-- Lists of rails and tallies that grow.
use Rattle.std.proofs.Common.{◌≡◌, ℕ, List, [], ◌∷◌, ◌++◌, length, Some, sym, ap, subst, ◌∙◌, ◌⊎◌, inl, inr}
use Rattle.std.specs.Prelude.{slice_get}
use Rattle.qz_verilog.specs.Meaning.{Nets}
use Rattle.qz_meaning.specs.Verdicts.{Verdict}
use Rattle.qz_wires.specs.declared.rails.Rail.{Rail}
use Rattle.qz_values.specs.declared.Ty.{Ty}
use Rattle.qz_verilog.specs.Types.{NetTypes}
use Rattle.qz_system.specs.declared.parts.SystemParts.{SystemParts}
use Rattle.qz_system.specs.Parts.{instance_type}
use Rattle.qz_wires.specs.Rails.{IsRail}
use Rattle.qz_wires.proofs.NetLists.{get_pushed}
use Rattle.qz_equations.specs.declared.tallies.Tally.{Tally}
use Rattle.qz_equations.specs.Tallies.{ShowsVerdict, ShowVerdicts, IsTally}
use Rattle.qz_equations.specs.Unrolled.{AreFirstRails, AreFirstTallies}

pub first_rails_more : (types : NetTypes) (parts : SystemParts) (rails : List Rail) (rail : Rail) → AreFirstRails types parts rails
    → ((ty : Ty) → instance_type parts (length rails) ≡ Some ty → IsRail types ty rail) → AreFirstRails types parts (rails ++ rail ∷ [])
first_rails_more types parts rails rail are here = record { each = λ n ty r is at. by n ty r is (get_pushed rails rail n r at) }
  where
    by : (n : ℕ) (ty : Ty) (r : Rail) → instance_type parts n ≡ Some ty → (slice_get rails n ≡ Some r) ⊎ ((n ≡ length rails) × (rail ≡ r)) → IsRail types ty r
    by n ty r is (inl old) = are.each n ty r is old
    by n ty r is (inr last) = subst (IsRail types ty) last.1 (here ty (ap (instance_type parts) (sym last.0) ∙ is))

pub first_tallies_more : (types : NetTypes) (parts : SystemParts) (tallies : List Tally) (tally : Tally) → AreFirstTallies types parts tallies
    → ((ty : Ty) → instance_type parts (length tallies) ≡ Some ty → IsTally types ty tally) → AreFirstTallies types parts (tallies ++ tally ∷ [])
first_tallies_more types parts tallies tally are here = record { each = λ n ty t is at. by n ty t is (get_pushed tallies tally n t at) }
  where
    by : (n : ℕ) (ty : Ty) (t : Tally) → instance_type parts n ≡ Some ty → (slice_get tallies n ≡ Some t) ⊎ ((n ≡ length tallies) × (tally ≡ t)) → IsTally types ty t
    by n ty t is (inl old) = are.each n ty t is old
    by n ty t is (inr last) = subst (IsTally types ty) last.1 (here ty (ap (instance_type parts) (sym last.0) ∙ is))

pub verdicts_more : (nets : Nets) (tallies : List Tally) (tally : Tally) (verdicts : ℕ → Verdict) → ShowVerdicts nets tallies verdicts
    → ShowsVerdict nets tally (verdicts (length tallies)) → ShowVerdicts nets (tallies ++ tally ∷ []) verdicts
verdicts_more nets tallies tally verdicts each last = λ n t at. by n t (get_pushed tallies tally n t at)
  where
    by : (n : ℕ) (t : Tally) → (slice_get tallies n ≡ Some t) ⊎ ((n ≡ length tallies) × (tally ≡ t)) → ShowsVerdict nets t (verdicts n)
    by n t (inl old) = each n t old
    by n t (inr here) = rw (here.0, ← here.1) last
