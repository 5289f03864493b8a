use Rattle.std.proofs.Common.{◌≡◌, [], ◌∷◌, refl, true, false, sym, ◌∙◌}
use Rattle.qz_values.specs.declared.Know.TheVariants.{Known, Clash}
use Rattle.qz_syntax.specs.declared.expressions.Expr.TheVariants as expr
use Rattle.qz_syntax.specs.declared.expressions.Var.TheVariants as var
use Rattle.qz_syntax.specs.declared.places.Later.TheVariants as later
use Rattle.qz_meaning.specs.Instances.{formal_instance}
use Rattle.qz_meaning.specs.Layouts.{bare}
use Rattle.qz_meaning.specs.Simple.{assignment, pause, pause_layout}
use Rattle.qz_meaning.specs.Sequences.{sequence, sequence_layout}
use Rattle.qz_meaning.specs.Parallels.{parallel, parallel_layout}
use Rattle.qz_meaning.specs.Residing.{residing}
use Rattle.qz_meaning.specs.Configurations.{initial}
use Rattle.qz_meaning.specs.Settling.{Environment}
use Rattle.qz_meaning.specs.Rounds.{round, next_round}
use Rattle.qz_meaning.specs.Examples.{byte}
use Rattle.qz_meaning.specs.WriterExamples.{with_delayed, overtaken, PendingClashes, delaying_twice, DelayedClashes}
use Rattle.qz_meaning.proofs.Walking.{walking, laying}
use Rattle.qz_meaning.proofs.Situations.{at_first, WrittenOut, solved, stepped, round_now, round_later, agree_by, unclashed}
use Rattle.qz_meaning.proofs.Evaluating.{evaluating}
use Rattle.qz_meaning.proofs.Resting.{resting}

abbrev overtaking : WrittenOut overtaken
overtaking = record {
  does = λ step.
      sequence (residing step)
      (assignment step.now (residing step) true (var.Formal 0) (expr.Lit (byte 1))
      ∷ pause (residing step) 0
      ∷ assignment step.now (residing step) false (var.Formal 0) (expr.Lit (byte 2))
      ∷ []);
  lays = sequence_layout (bare ∷ pause_layout 0 ∷ bare ∷ []);
  does_is = λ step. simp walking;
  lays_is = simp laying;
}

-- `x` is 0, and 1 is delayed for it
first_values : Environment
first_values = record { now = λ i. Known (byte 0); later = λ i. later.Known (byte 1) }

-- each round after the first has the clash
pending_now : (env : Environment) → (next_round overtaken with_delayed [] env).now (formal_instance 0) ≡ Clash
pending_now env = round_now overtaken overtaking with_delayed [] env (formal_instance 0) ∙ simp (evaluating, resting)

pending_later : (env : Environment) → (next_round overtaken with_delayed [] env).later (formal_instance 0) ≡ later.Absent
pending_later env = round_later overtaken overtaking with_delayed [] env (formal_instance 0) ∙ simp resting

pub pending_clashes : PendingClashes
unfolding first_values
pending_clashes = record {
  first = stepped overtaken overtaking _ _ first_values _ _
      (solved overtaken overtaking _ _ _ (at_first _ _ refl) refl (record { now = tt; later = tt }, tt) (simp evaluating (record { now = refl; later = refl }, tt)))
      refl refl;
  last = agree_by overtaken overtaking with_delayed _ _ (simp resting (
    record {
      now = pending_now (round overtaken with_delayed [] 0) ∙ sym (pending_now (round overtaken with_delayed [] 1));
      later = pending_later (round overtaken with_delayed [] 0) ∙ sym (pending_later (round overtaken with_delayed [] 1));
    },
    tt,
  ));
  clashes = pending_now (round overtaken with_delayed [] 0);
  no_step = unclashed overtaken overtaking with_delayed [] 1 (λ free. free.0.now (pending_now (round overtaken with_delayed [] 0)));
}

abbrev twice_delayed : WrittenOut delaying_twice
twice_delayed = record {
  does = λ step.
      parallel (residing step)
      (assignment step.now (residing step) true (var.Formal 0) (expr.Lit (byte 1))
      ∷ assignment step.now (residing step) true (var.Formal 0) (expr.Lit (byte 2))
      ∷ []);
  lays = parallel_layout (bare ∷ bare ∷ []);
  does_is = λ step. simp walking;
  lays_is = simp laying;
}

twice_now : (env : Environment) → (next_round delaying_twice (initial delaying_twice) [] env).now (formal_instance 0) ≡ Known (byte 0)
twice_now env = round_now delaying_twice twice_delayed (initial delaying_twice) [] env (formal_instance 0)

twice_later : (env : Environment) → (next_round delaying_twice (initial delaying_twice) [] env).later (formal_instance 0) ≡ later.Clash
twice_later env = round_later delaying_twice twice_delayed (initial delaying_twice) [] env (formal_instance 0) ∙ simp evaluating

pub delayed_clashes : DelayedClashes
delayed_clashes = record {
  last = agree_by delaying_twice twice_delayed (initial delaying_twice) _ _ (
    record {
      now = twice_now (round delaying_twice (initial delaying_twice) [] 0) ∙ sym (twice_now (round delaying_twice (initial delaying_twice) [] 1));
      later = twice_later (round delaying_twice (initial delaying_twice) [] 0) ∙ sym (twice_later (round delaying_twice (initial delaying_twice) [] 1));
    },
    tt,
  );
  now = twice_now (round delaying_twice (initial delaying_twice) [] 0);
  clashes = twice_later (round delaying_twice (initial delaying_twice) [] 0);
  no_step = unclashed delaying_twice twice_delayed (initial delaying_twice) [] 1 (λ free. free.0.later (twice_later (round delaying_twice (initial delaying_twice) [] 0)));
}
