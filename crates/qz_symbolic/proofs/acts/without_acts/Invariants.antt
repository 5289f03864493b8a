use Rattle.std.proofs.Common.{◌≡◌, ℕ, Some, length}
use Rattle.std.specs.Prelude.{slice_get}
use Rattle.qz_values.specs.declared.Ty.{Ty}
use Rattle.qz_tallies.specs.declared.tally.Tally.{Tally}
use Rattle.qz_system.specs.Parts.{instance_type}
use Rattle.qz_symbolic.specs.Knowing.{IsEmpty}
use Rattle.qz_symbolic.proofs.acts.without_acts.Given as goal

abbrev pub invariant-loop-n : goal.invariant-loop-n
invariant-loop-n l = record {
  long : length l.all.items ≡ l.n;
  each : (n : ℕ) (tally : Tally) → slice_get l.all.items n ≡ Some tally → (ty : Ty) → instance_type l.parts n ≡ Some ty → IsEmpty l.diagrams ty tally;
}
