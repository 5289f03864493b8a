use Rattle.std.proofs.Common.{◌≡◌, ℕ, suc, zero, Bool, true, ◌&&◌, List, [], ◌∷◌, Some, None, refl, ap, ap₂, sym, subst, ◌∙◌, false}
use Rattle.std.specs.Prelude.{replicate}
use Rattle.std.specs.List.{AllByRecursion}
use Rattle.qz_values.specs.declared.Ty.TheVariants as ty
use Rattle.qz_values.specs.declared.Value.{Value}
use Rattle.qz_values.specs.declared.Know.TheVariants.{Known}
use Rattle.qz_values.specs.Values.{yes}
use Rattle.qz_syntax.specs.declared.expressions.Var.TheVariants as var
use Rattle.qz_syntax.specs.declared.places.Later.TheVariants as later
use Rattle.qz_syntax.specs.declared.statements.Stmt.TheVariants as stmt
use Rattle.qz_syntax.specs.Typing.{Declared, Sight, no_sight, is_condition}
use Rattle.qz_syntax.specs.Sound.{type_at, node_is_sound, is_sound}
use Rattle.qz_syntax.specs.WellFormed.{declared_by, IsWellFormed}
use Rattle.qz_syntax.proofs.Equations.{fold-Lit, fold-Assign, fold-Pause, fold-Seq, fold-Loop}
use Rattle.qz_meaning.specs.Instances.{formal_instance}
use Rattle.qz_meaning.specs.Scenes.{default_store}
use Rattle.qz_meaning.specs.Accounts.{Write}
use Rattle.qz_meaning.specs.Layouts.{Met, bare}
use Rattle.qz_meaning.specs.Simple.{assignment, pause, pause_layout}
use Rattle.qz_meaning.specs.Sequences.{sequence, sequence_layout}
use Rattle.qz_meaning.specs.Loops.{loop, loop_layout}
use Rattle.qz_meaning.specs.Residing.{residing}
use Rattle.qz_meaning.specs.Configurations.{Configuration, IsValuationOf, initial}
use Rattle.qz_meaning.specs.Settling.{Environment, met_as}
use Rattle.qz_meaning.specs.Rounds.{now_or_unknown, later_or_unknown, round, next_round, IsKnown, IsKnownOrAbsent, IsPlainAt, IsDefinite}
use Rattle.qz_meaning.specs.MacroSteps.{IsStep}
use Rattle.qz_meaning.specs.Runs.{RunsFrom, IsOnlyRun}
use Rattle.qz_meaning.specs.StepLaws.{HasOneStep}
use Rattle.qz_meaning.specs.RunLaws.{IsDefiniteFrom}
use Rattle.qz_meaning.specs.Examples.{always, emit, emitting, always_emitted, at_its_pause, StartsDefinite, EmitsInOneRun}
use Rattle.qz_meaning.proofs.OneStep.{one_step}
use Rattle.qz_meaning.proofs.OneRun.{one_run}
use Rattle.qz_meaning.proofs.Walking.{walking, laying}
use Rattle.qz_meaning.proofs.Situations.{at_first, at_rest, WrittenOut, met_by, writes_by, rests, round_now, round_later, agree_by, met_is}
use Rattle.qz_meaning.proofs.Evaluating.{evaluating}
use Rattle.qz_meaning.proofs.Resting.{resting}
use Rattle.qz_meaning.proofs.Folding.{folding}
use Rattle.qz_meaning.proofs.EmitsAlways.{emits_always}

abbrev emits : WrittenOut always_emitted
emits = record {
  does = λ step. loop step.now (residing step) 0 (sequence (residing step) (assignment step.now (residing step) false (var.Formal 0) always ∷ pause (residing step) 0 ∷ [])) always;
  lays = loop_layout 0 (sequence_layout (bare ∷ pause_layout 0 ∷ []));
  does_is = λ step. simp walking;
  lays_is = simp laying;
}

abbrev o_met : Met
o_met = record { instance = formal_instance 0; store = Some (default_store ty.Bool) }

abbrev o_is_yes : Write
o_is_yes = record { target = formal_instance 0; delayed = false; guard = Known yes; value = Known yes }

-- where `o` alone is met and emitted
module _ (c : Configuration) (valuation : IsValuationOf always_emitted c []) (met : met_by always_emitted emits c ≡ o_met ∷ [])
    (writes : (env : Environment) → writes_by always_emitted emits c env ≡ o_is_yes ∷ []) where
  -- each round after the first knows the output
  round_yes : (env : Environment) → (next_round always_emitted c [] env).now (formal_instance 0) ≡ Known yes
  round_yes env =
      round_now always_emitted emits c [] env (formal_instance 0)
      ∙ ap₂ (λ (ws : List Write) (mets : List Met). now_or_unknown always_emitted ws None (met_as (formal_instance 0) mets)) (writes env) met

  round_absent : (env : Environment) → (next_round always_emitted c [] env).later (formal_instance 0) ≡ later.Absent
  round_absent env =
      round_later always_emitted emits c [] env (formal_instance 0)
      ∙ ap₂ (λ (ws : List Write) (mets : List Met). later_or_unknown ws (met_as (formal_instance 0) mets)) (writes env) met

  abbrev first : Environment
  first = round always_emitted c [] 0

  abbrev second : Environment
  second = round always_emitted c [] 1

  definite : IsDefinite always_emitted c []
  definite = record {
    valuation = valuation;
    least = second;
    is_least = record {
      number = 1;
      last = agree_by always_emitted emits c _ _ (rw met (
        record {
          now = round_yes first ∙ sym (round_yes second);
          later = round_absent first ∙ sym (round_absent second);
        },
        tt,
      ));
      is = refl;
    };
    plain = subst (λ (mets : List Met). AllByRecursion (IsPlainAt second) mets) (sym (met_is always_emitted emits c ∙ met)) (
      record {
        now = subst IsKnown (sym (round_yes first)) tt;
        later = subst IsKnownOrAbsent (sym (round_absent first)) tt;
      },
      tt,
    );
  }

pub starts_definite : StartsDefinite
starts_definite = definite (initial always_emitted) (at_first always_emitted [] refl) refl (λ env. simp evaluating)

rests_definite : IsDefinite always_emitted at_its_pause []
rests_definite =
    definite at_its_pause (at_rest always_emitted _ _ [] (rests always_emitted emits _ (simp resting)) refl refl) (simp resting) (λ env. simp (evaluating, resting))

abbrev declared : Declared
declared = declared_by [] emitting

emit_sound : is_sound declared (emit 0) no_sight ≡ true
emit_sound = ap (λ (f : Sight → Bool). f no_sight) (fold-Assign (Sight → Bool) (node_is_sound declared) (var.Formal 0) always) ∙ simp fold-Lit

pause_sound : is_sound declared (stmt.Pause 0) no_sight ≡ true
pause_sound = ap (λ (f : Sight → Bool). f no_sight) (fold-Pause (Sight → Bool) (node_is_sound declared) 0)

body_sound : is_sound declared (stmt.Seq (emit 0 ∷ stmt.Pause 0 ∷ [])) no_sight ≡ true
body_sound =
    ap (λ (f : Sight → Bool). f no_sight) (fold-Seq (Sight → Bool) (node_is_sound declared) (emit 0 ∷ stmt.Pause 0 ∷ []))
    ∙ ap₂ (λ (a b : Bool). a && (b && true)) emit_sound pause_sound

loop_sound : is_sound declared emitting.body no_sight ≡ true
loop_sound =
    ap (λ (f : Sight → Bool). f no_sight) (fold-Loop (Sight → Bool) (node_is_sound declared) 0 (stmt.Seq (emit 0 ∷ stmt.Pause 0 ∷ [])) always)
    ∙ ap₂ (λ (a b : Bool). a && b) (let known : is_condition (type_at declared no_sight always) ≡ true = simp fold-Lit in known) body_sound

well : IsWellFormed [] emitting
well = record {
  numbered = record { places = simp folding; loops = simp folding; locals = simp folding; calls = simp folding };
  unlabelled = simp folding;
  proto_types = refl;
  formal_types = refl;
  local_types = refl;
  sound = loop_sound;
}

-- every step leads to the pause
comes_to : (c : Configuration) → IsDefinite always_emitted c [] → IsStep always_emitted c [] (yes ∷ []) at_its_pause
    → (out : List Value) (next : Configuration) → IsStep always_emitted c [] out next → at_its_pause ≡ next
comes_to c here there out next step =
    let one : HasOneStep always_emitted c [] = one_step emitting well c [] here in
    one.only_next (yes ∷ []) at_its_pause there ∙ sym (one.only_next out next step)

definite_again : (n : ℕ) → IsDefiniteFrom always_emitted at_its_pause (replicate n [])
definite_again zero = tt
definite_again (suc n) = (
  rests_definite,
  λ out next step.
      subst (λ (c : Configuration). IsDefiniteFrom always_emitted c (replicate n [])) (comes_to at_its_pause rests_definite emits_always.again out next step) (definite_again n),
)

definite_first : (n : ℕ) → IsDefiniteFrom always_emitted (initial always_emitted) (replicate n [])
definite_first zero = tt
definite_first (suc n) = (
  starts_definite,
  λ out next step.
      subst (λ (c : Configuration). IsDefiniteFrom always_emitted c (replicate n []))
      (comes_to (initial always_emitted) starts_definite emits_always.first out next step) (definite_again n),
)

-- the runs that there are
runs_again : (n : ℕ) → RunsFrom always_emitted at_its_pause (replicate n []) (replicate n (yes ∷ [])) (replicate n at_its_pause)
runs_again zero = tt
runs_again (suc n) = (emits_always.again, runs_again n)

runs_first : (n : ℕ) → RunsFrom always_emitted (initial always_emitted) (replicate n []) (replicate n (yes ∷ [])) (replicate n at_its_pause)
runs_first zero = tt
runs_first (suc n) = (emits_always.first, runs_again n)

pub emits_in_one_run : EmitsInOneRun
emits_in_one_run n =
    let run = one_run emitting well (replicate n []) (definite_first n) in
    subst (IsOnlyRun always_emitted (replicate n [])) (sym (run.1.only_outputs (replicate n (yes ∷ [])) (replicate n at_its_pause, runs_first n))) run.1
