use Rattle.std.proofs.Common.{◌≡◌, ℕ, Some, length}
use Rattle.std.specs.Prelude.{slice_get}
use Rattle.qz_values.specs.declared.Ty.{Ty}
use Rattle.qz_system.specs.Parts.{instance_type}
use Rattle.qz_symbolic.specs.declared.rails.InstanceRails.{InstanceRails}
use Rattle.qz_symbolic.specs.Rounds.{IsNothing}
use Rattle.qz_symbolic.proofs.rounds.first_round.Given as goal

abbrev pub invariant-loop-n : goal.invariant-loop-n
invariant-loop-n l = record {
  long : length l.all.items ≡ l.n;
  each : (n : ℕ) (one : InstanceRails) → slice_get l.all.items n ≡ Some one → (ty : Ty) → instance_type l.parts n ≡ Some ty → IsNothing l.diagrams ty one;
}
