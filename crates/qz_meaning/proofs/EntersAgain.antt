use Rattle.std.proofs.Common.{[], ◌∷◌, map, refl, false, ap, ◌∙◌}
use Rattle.qz_syntax.specs.declared.expressions.Expr.TheVariants as expr
use Rattle.qz_syntax.specs.declared.expressions.Var.TheVariants as var
use Rattle.qz_meaning.specs.Layouts.{Met, bare}
use Rattle.qz_meaning.specs.Behaviors.{idle}
use Rattle.qz_meaning.specs.Simple.{assignment, pause, pause_layout}
use Rattle.qz_meaning.specs.Sequences.{sequence, sequence_layout}
use Rattle.qz_meaning.specs.Choices.{choice, choice_layout}
use Rattle.qz_meaning.specs.Loops.{loop, loop_layout}
use Rattle.qz_meaning.specs.Scopes.{scope, scope_layout}
use Rattle.qz_meaning.specs.Residing.{residing}
use Rattle.qz_meaning.specs.Examples.{always, with_true}
use Rattle.qz_meaning.specs.ScopeExamples.{entered_again, in_scope, at_turn, EntersAgain}
use Rattle.qz_meaning.proofs.Walking.{walking, laying}
use Rattle.qz_meaning.proofs.Situations.{at_first, at_rest, WrittenOut, met_is, next_is, rests, solved, stepped}
use Rattle.qz_meaning.proofs.Evaluating.{evaluating}
use Rattle.qz_meaning.proofs.Resting.{resting}
use Rattle.qz_meaning.proofs.Folding.{folding}

abbrev turning : WrittenOut entered_again
turning = record {
  does = λ step.
      loop step.now (residing step) 0
      (scope (residing step) (0 ∷ [])
      (sequence (residing step)
      (choice step.now (residing step) (expr.Var (var.Local 0)) (assignment step.now (residing step) false (var.Formal 0) always) (idle (residing step))
      ∷ pause (residing step) 0
      ∷ assignment step.now (residing step) false (var.Local 0) always
      ∷ [])))
      always;
  lays = loop_layout 0 (scope_layout (0 ∷ []) (sequence_layout (choice_layout bare bare ∷ pause_layout 0 ∷ bare ∷ [])));
  does_is = λ step. simp walking;
  lays_is = simp laying;
}

pub enters_again : EntersAgain
enters_again = record {
  ordered = simp folding;
  first = stepped entered_again turning _ _ (with_true []) _ _
      (solved entered_again turning _ _ _ (at_first _ _ refl) refl
      (record { now = tt; later = tt }, (record { now = tt; later = tt }, tt))
      (simp evaluating (record { now = refl; later = refl }, (record { now = refl; later = refl }, tt))))
      refl (simp evaluating);
  met = ap (map (λ (one : Met). one.instance)) (met_is entered_again turning in_scope) ∙ simp resting;
  solution = solved entered_again turning _ _ _ (at_rest _ _ _ _ (rests entered_again turning _ (simp resting)) refl refl) refl
      (simp resting (record { now = tt; later = tt }, (record { now = tt; later = tt }, (record { now = tt; later = tt }, tt))))
      (simp (evaluating, resting) (record { now = refl; later = refl }, (record { now = refl; later = refl }, (record { now = refl; later = refl }, tt))));
  next_is = next_is entered_again turning in_scope at_turn ∙ simp (evaluating, resting);
  left = refl;
  entered = refl;
  output = refl;
}
