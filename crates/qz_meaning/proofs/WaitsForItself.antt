use Rattle.std.proofs.Common.{◌≡◌, ℕ, suc, zero, [], refl, false, sym, ap, subst, ◌∙◌}
use Rattle.qz_values.specs.declared.Ty.TheVariants as ty
use Rattle.qz_values.specs.declared.Know.{Know}
use Rattle.qz_values.specs.declared.Know.TheVariants.{Unknown, Known}
use Rattle.qz_values.specs.Values.{yes}
use Rattle.qz_values.specs.Knowledge.{both}
use Rattle.qz_syntax.specs.declared.declarations.Class.TheVariants.{Event}
use Rattle.qz_syntax.specs.declared.expressions.Var.TheVariants as var
use Rattle.qz_syntax.specs.declared.places.Later.TheVariants as later
use Rattle.qz_meaning.specs.Instances.{formal_instance}
use Rattle.qz_meaning.specs.Scenes.{default_store}
use Rattle.qz_meaning.specs.Layouts.{bare}
use Rattle.qz_meaning.specs.Behaviors.{idle}
use Rattle.qz_meaning.specs.Simple.{assignment}
use Rattle.qz_meaning.specs.Choices.{choice, choice_layout}
use Rattle.qz_meaning.specs.Residing.{residing}
use Rattle.qz_meaning.specs.Verdicts.{verdict_of_one}
use Rattle.qz_meaning.specs.Configurations.{initial}
use Rattle.qz_meaning.specs.Settling.{Environment, settled}
use Rattle.qz_meaning.specs.Rounds.{round, next_round, IsKnown, IsDefinite}
use Rattle.qz_meaning.specs.Examples.{always, formal}
use Rattle.qz_meaning.specs.WriterExamples.{WaitsForItself, waiting}
use Rattle.qz_meaning.proofs.Walking.{walking, laying}
use Rattle.qz_meaning.proofs.Situations.{WrittenOut, round_now, round_later, agree_by, plain_by}
use Rattle.qz_meaning.proofs.Evaluating.{evaluating}

abbrev waited : WrittenOut waiting
waited = record {
  does = λ step. choice step.now (residing step) (formal 0) (assignment step.now (residing step) false (var.Formal 0) always) (idle (residing step));
  lays = choice_layout bare bare;
  does_is = λ step. simp walking;
  lays_is = simp laying;
}

-- what a round makes of what is known of `x`
abbrev settled_again : Know → Know
settled_again k = settled Event ty.Bool (default_store ty.Bool) (verdict_of_one (both (Known yes) k) (Known yes))

next_now : (env : Environment)
    → (next_round waiting (initial waiting) [] env).now (formal_instance 0) ≡ settled_again (env.now (formal_instance 0))
next_now env = round_now waiting waited (initial waiting) [] env (formal_instance 0) ∙ simp evaluating

next_later : (env : Environment) → (next_round waiting (initial waiting) [] env).later (formal_instance 0) ≡ later.Absent
next_later env = round_later waiting waited (initial waiting) [] env (formal_instance 0)

-- from round 0 on `x` is unknown
x_waits : (n : ℕ) → (round waiting (initial waiting) [] n).now (formal_instance 0) ≡ Unknown
x_waits zero = refl
x_waits (suc n) = next_now (round waiting (initial waiting) [] n) ∙ ap settled_again (x_waits n)

indefinite : IsDefinite waiting (initial waiting) [] → ⊥
indefinite definite =
    let plain = plain_by waiting waited (initial waiting) definite.least definite.plain in
    let known : IsKnown (definite.least.now (formal_instance 0)) = plain.0.now in
    let is_unknown : definite.least.now (formal_instance 0) ≡ Unknown =
    ap (λ (env : Environment). env.now (formal_instance 0)) definite.is_least.is ∙ x_waits definite.is_least.number in
    subst IsKnown is_unknown known

pub waits_for_itself : WaitsForItself
waits_for_itself = record {
  last = agree_by waiting waited (initial waiting) _ _ (
    record {
      now = x_waits 1 ∙ sym (x_waits 2);
      later = next_later (round waiting (initial waiting) [] 0) ∙ sym (next_later (round waiting (initial waiting) [] 1));
    },
    tt,
  );
  is_unknown = x_waits 1;
  indefinite = indefinite;
}
