use Rattle.std.proofs.Common.{◌≡◌, List, [], ◌∷◌, map, refl, true, false, Some, if◌then◌else◌, ap, ◌∙◌}
use Rattle.qz_values.specs.declared.Value.{Value}
use Rattle.qz_values.specs.declared.Know.TheVariants.{Known}
use Rattle.qz_values.specs.Values.{yes, no}
use Rattle.qz_syntax.specs.declared.expressions.Expr.TheVariants as expr
use Rattle.qz_syntax.specs.declared.expressions.Var.TheVariants as var
use Rattle.qz_syntax.specs.declared.places.Mark.TheVariants as mark
use Rattle.qz_syntax.specs.declared.places.Later.{Later}
use Rattle.qz_syntax.specs.declared.places.Later.TheVariants as later
use Rattle.qz_meaning.specs.Instances.{is_same_instance, formal_instance, local_instance}
use Rattle.qz_meaning.specs.Scenes.{Scene, root}
use Rattle.qz_meaning.specs.Layouts.{Met, bare}
use Rattle.qz_meaning.specs.Behaviors.{Behavior}
use Rattle.qz_meaning.specs.Simple.{assignment, pause, pause_layout}
use Rattle.qz_meaning.specs.Sequences.{sequence, sequence_layout}
use Rattle.qz_meaning.specs.Loops.{loop, loop_layout}
use Rattle.qz_meaning.specs.Suspends.{suspend, suspend_layout}
use Rattle.qz_meaning.specs.Scopes.{scope, scope_layout}
use Rattle.qz_meaning.specs.Walks.{behavior}
use Rattle.qz_meaning.specs.Residing.{residing, no_calls}
use Rattle.qz_meaning.specs.Landings.{Deed, Spot, At, Keeps, landing}
use Rattle.qz_meaning.specs.Settling.{Environment}
use Rattle.qz_meaning.specs.Examples.{always, byte, formal, with_true}
use Rattle.qz_meaning.specs.ReentryExamples.{delayed, weakly_held, SuspendsWeakly, twice_looped, in_two_loops, inside_loops, looping_with, inner_x, outer_x, spots_after, EntersByEach}
use Rattle.qz_meaning.proofs.Walking.{walking, laying}
use Rattle.qz_meaning.proofs.Situations.{at_first, at_rest, WrittenOut, met_is, rests, solved, stepped}
use Rattle.qz_meaning.proofs.Evaluating.{evaluating}
use Rattle.qz_meaning.proofs.Resting.{resting}

abbrev holding : WrittenOut weakly_held
holding = record {
  does = λ step.
      loop step.now (residing step) 0
      (suspend step.now (residing step) (record { weak = true; immediate = true }) (Some 0)
      (scope (residing step) (0 ∷ [])
      (sequence (residing step)
      (assignment step.now (residing step) false (var.Formal 1) (expr.Var (var.Local 0))
      ∷ assignment step.now (residing step) true (var.Local 0) (expr.Lit (byte 5))
      ∷ pause (residing step) 1
      ∷ [])))
      (formal 0))
      always;
  lays = loop_layout 0 (suspend_layout (Some 0) (scope_layout (0 ∷ []) (sequence_layout (bare ∷ bare ∷ pause_layout 1 ∷ []))));
  does_is = λ step. simp walking;
  lays_is = simp laying;
}

-- the values of a step: of `c`, of the `x` that is kept with what is delayed for it, and what is delayed for the one
-- that the loop's turn enters; all else is 0
abbrev values : Value → Value → Later → Later → Environment
values c kept delayed_kept delayed_turned = record {
  now = λ i. if is_same_instance i (formal_instance 0) then Known c else if is_same_instance i (local_instance 0 mark.Zero) then Known kept else Known (byte 0);
  later = λ i.
      if is_same_instance i (local_instance 0 mark.Zero) then delayed_kept
      else if is_same_instance i (local_instance 0 (mark.Loop 0)) then delayed_turned else later.Absent;
}

pub suspends_weakly : SuspendsWeakly
suspends_weakly = record {
  acts = stepped weakly_held holding _ _ (values yes (byte 0) (later.Known (byte 5)) later.Absent) _ _
      (solved weakly_held holding _ _ _ (at_first _ _ refl) refl
      (record { now = tt; later = tt }, (record { now = tt; later = tt }, tt))
      (simp evaluating (record { now = refl; later = refl }, (record { now = refl; later = refl }, tt))))
      refl (simp evaluating);
  acts_again = stepped weakly_held holding _ _ (values yes (byte 0) (later.Known (byte 5)) later.Absent) _ _
      (solved weakly_held holding _ _ _ (at_rest _ _ _ _ (rests weakly_held holding _ (simp resting)) refl refl) refl
      (simp resting (record { now = tt; later = tt }, (record { now = tt; later = tt }, (record { now = tt; later = tt }, tt))))
      (simp (evaluating, resting) (record { now = refl; later = refl }, (record { now = refl; later = refl }, (record { now = refl; later = refl }, tt)))))
      refl (simp (evaluating, resting));
  enters = stepped weakly_held holding _ _ (values no (byte 0) (later.Known (byte 5)) later.Absent) _ _
      (solved weakly_held holding _ _ _ (at_rest _ _ _ _ (rests weakly_held holding _ (simp resting)) refl refl) refl
      (simp resting (record { now = tt; later = tt }, (record { now = tt; later = tt }, (record { now = tt; later = tt }, tt))))
      (simp (evaluating, resting) (record { now = refl; later = refl }, (record { now = refl; later = refl }, (record { now = refl; later = refl }, tt)))))
      refl (simp (evaluating, resting));
  stays = stepped weakly_held holding _ _ (values yes (byte 5) later.Absent later.Absent) _ _
      (solved weakly_held holding _ _ _ (at_rest _ _ _ _ (rests weakly_held holding _ (simp resting)) refl refl) refl
      (simp resting (record { now = tt; later = tt }, (record { now = tt; later = tt }, (record { now = tt; later = tt }, tt))))
      (simp (evaluating, resting) (record { now = refl; later = refl }, (record { now = refl; later = refl }, (record { now = refl; later = refl }, tt)))))
      refl (simp (evaluating, resting));
  turns = stepped weakly_held holding _ _ (values no (byte 5) later.Absent (later.Known (byte 5))) _ _
      (solved weakly_held holding _ _ _ (at_rest _ _ _ _ (rests weakly_held holding _ (simp resting)) refl refl) refl
      (simp resting (record { now = tt; later = tt }, (record { now = tt; later = tt }, (record { now = tt; later = tt }, tt))))
      (simp (evaluating, resting) (record { now = refl; later = refl }, (record { now = refl; later = refl }, (record { now = refl; later = refl }, tt)))))
      refl (simp (evaluating, resting));
}

abbrev twice : WrittenOut in_two_loops
twice = record {
  does = λ step.
      loop step.now (residing step) 0
      (loop step.now (residing step) 1
      (scope (residing step) (0 ∷ [])
      (sequence (residing step) (assignment step.now (residing step) true (var.Local 0) (expr.Lit (byte 5)) ∷ pause (residing step) 0 ∷ [])))
      (formal 0))
      always;
  lays = loop_layout 0 (loop_layout 1 (scope_layout (0 ∷ []) (sequence_layout (bare ∷ pause_layout 0 ∷ []))));
  does_is = λ step. simp walking;
  lays_is = simp laying;
}

-- the same, told by spots
abbrev looped : Scene → Behavior Deed (List Spot)
looped scene =
    loop scene landing 0
    (loop scene landing 1
    (scope landing (0 ∷ []) (sequence landing (assignment scene landing true (var.Local 0) (expr.Lit (byte 5)) ∷ pause landing 0 ∷ [])))
    (formal 0))
    always

looped_is : (scene : Scene) → behavior scene landing (no_calls landing) twice_looped ≡ looped scene
looped_is scene = simp walking

goes_by : (scene : Scene) (spots : List Spot) → (looped scene).after root (inside_loops (delayed (byte 5))) ≡ spots → spots_after scene (delayed (byte 5)) ≡ spots
goes_by scene spots h = ap (λ (b : Behavior Deed (List Spot)). b.after root (inside_loops (delayed (byte 5)))) (looped_is scene) ∙ h

-- the values of a step: of `a`, and what is delayed for the `x` of the inner and of the outer loop; the `x` that is
-- kept has its delayed value, and the others are new
abbrev loop_values : Value → Later → Later → Environment
loop_values a inner outer = record {
  now = λ i. if is_same_instance i (formal_instance 0) then Known a else if is_same_instance i (local_instance 0 mark.Zero) then Known (byte 5) else Known (byte 0);
  later = λ i.
      if is_same_instance i (local_instance 0 (mark.Loop 1)) then inner
      else if is_same_instance i (local_instance 0 (mark.Loop 0)) then outer else later.Absent;
}

pub enters_by_each : EntersByEach
enters_by_each = record {
  met = ap (map (λ (one : Met). one.instance)) (met_is in_two_loops twice (looping_with (delayed (byte 5)))) ∙ simp resting;
  inner = goes_by (with_true (formal_instance 0 ∷ [])).now (At 0 ∷ Keeps inner_x ∷ []) (simp (evaluating, resting));
  outer = goes_by (with_true []).now (At 0 ∷ Keeps outer_x ∷ []) (simp (evaluating, resting));
  turns_inner = stepped in_two_loops twice _ _ (loop_values yes (later.Known (byte 5)) later.Absent) _ _
      (solved in_two_loops twice _ _ _ (at_rest _ _ _ _ (rests in_two_loops twice _ (simp resting)) refl refl) refl
      (simp resting (record { now = tt; later = tt }, (record { now = tt; later = tt }, (record { now = tt; later = tt }, tt))))
      (simp (evaluating, resting) (record { now = refl; later = refl }, (record { now = refl; later = refl }, (record { now = refl; later = refl }, tt)))))
      refl (simp (evaluating, resting));
  turns_outer = stepped in_two_loops twice _ _ (loop_values no later.Absent (later.Known (byte 5))) _ _
      (solved in_two_loops twice _ _ _ (at_rest _ _ _ _ (rests in_two_loops twice _ (simp resting)) refl refl) refl
      (simp resting (record { now = tt; later = tt }, (record { now = tt; later = tt }, (record { now = tt; later = tt }, tt))))
      (simp (evaluating, resting) (record { now = refl; later = refl }, (record { now = refl; later = refl }, (record { now = refl; later = refl }, tt)))))
      refl (simp (evaluating, resting));
}
