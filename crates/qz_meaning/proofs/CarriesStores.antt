use Rattle.std.proofs.Common.{[], ◌∷◌, refl, true, false, None, if◌then◌else◌}
use Rattle.qz_values.specs.declared.Value.{Value}
use Rattle.qz_values.specs.declared.Know.TheVariants.{Known}
use Rattle.qz_values.specs.Values.{yes, no}
use Rattle.qz_syntax.specs.declared.expressions.Expr.TheVariants as expr
use Rattle.qz_syntax.specs.declared.expressions.Var.TheVariants as var
use Rattle.qz_syntax.specs.declared.places.Mark.TheVariants as mark
use Rattle.qz_syntax.specs.declared.places.Later.{Later}
use Rattle.qz_syntax.specs.declared.places.Later.TheVariants as later
use Rattle.qz_meaning.specs.Instances.{is_same_instance, formal_instance, local_instance}
use Rattle.qz_meaning.specs.Layouts.{bare}
use Rattle.qz_meaning.specs.Simple.{assignment, pause, pause_layout}
use Rattle.qz_meaning.specs.Sequences.{sequence, sequence_layout}
use Rattle.qz_meaning.specs.Suspends.{suspend, suspend_layout}
use Rattle.qz_meaning.specs.Scopes.{scope, scope_layout}
use Rattle.qz_meaning.specs.Residing.{residing}
use Rattle.qz_meaning.specs.Settling.{Environment}
use Rattle.qz_meaning.specs.Examples.{byte, formal}
use Rattle.qz_meaning.specs.ScopeExamples.{suspended, HasThreeInstances, CarriesStores}
use Rattle.qz_meaning.proofs.Walking.{walking, laying}
use Rattle.qz_meaning.proofs.Situations.{at_first, at_rest, WrittenOut, rests, solved, stepped}
use Rattle.qz_meaning.proofs.Evaluating.{evaluating}
use Rattle.qz_meaning.proofs.Resting.{resting}
use Rattle.qz_meaning.proofs.Folding.{folding}

abbrev pub suspending : WrittenOut suspended
suspending = record {
  does = λ step.
      suspend step.now (residing step) (record { weak = false; immediate = false }) None
      (scope (residing step) (0 ∷ [])
      (sequence (residing step)
      (assignment step.now (residing step) true (var.Local 0) (expr.Lit (byte 5))
      ∷ pause (residing step) 0
      ∷ assignment step.now (residing step) false (var.Formal 1) (expr.Var (var.Local 0))
      ∷ pause (residing step) 1
      ∷ [])))
      (formal 0);
  lays = suspend_layout None (scope_layout (0 ∷ []) (sequence_layout (bare ∷ pause_layout 0 ∷ bare ∷ pause_layout 1 ∷ [])));
  does_is = λ step. simp walking;
  lays_is = simp laying;
}

-- the values of a step: of `c`, of `y` and of `x`, and what is delayed for `x`
abbrev values : Value → Value → Value → Later → Environment
values c y x delayed = record {
  now = λ i. if is_same_instance i (formal_instance 0) then Known c else if is_same_instance i (formal_instance 1) then Known y else Known x;
  later = λ i. if is_same_instance i (local_instance 0 mark.Zero) then delayed else later.Absent;
}

pub carries_stores : CarriesStores
carries_stores = record {
  first = stepped suspended suspending _ _ (values no (byte 0) (byte 0) (later.Known (byte 5))) _ _
      (solved suspended suspending _ _ _ (at_first _ _ refl) refl
      (record { now = tt; later = tt }, (record { now = tt; later = tt }, tt))
      (simp evaluating (record { now = refl; later = refl }, (record { now = refl; later = refl }, tt))))
      refl refl;
  held = stepped suspended suspending _ _ (values yes (byte 0) (byte 5) later.Absent) _ _
      (solved suspended suspending _ _ _ (at_rest _ _ _ _ (rests suspended suspending _ (simp resting)) refl refl) refl
      (simp resting (record { now = tt; later = tt }, (record { now = tt; later = tt }, tt)))
      (simp (evaluating, resting) (record { now = refl; later = refl }, (record { now = refl; later = refl }, tt))))
      refl (simp (evaluating, resting));
  resumed = stepped suspended suspending _ _ (values no (byte 5) (byte 5) later.Absent) _ _
      (solved suspended suspending _ _ _ (at_rest _ _ _ _ (rests suspended suspending _ (simp resting)) refl refl) refl
      (simp resting (record { now = tt; later = tt }, (record { now = tt; later = tt }, tt)))
      (simp (evaluating, resting) (record { now = refl; later = refl }, (record { now = refl; later = refl }, tt))))
      refl (simp (evaluating, resting));
}

pub has_three_instances : HasThreeInstances
has_three_instances = simp folding
