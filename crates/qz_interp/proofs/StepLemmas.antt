-- What rounds come to is the only macro step, or why there is none.
use Rattle.std.proofs.Common.{◌≡◌, ℕ, List, map, length, take, Some, None, refl, sym, ap, ap₂, subst, ◌∙◌}
use Rattle.std.proofs.lemmas.List.{length-map}
use Rattle.std.specs.List.{AllByRecursion}
use Rattle.qz_values.specs.declared.Value.{Value}
use Rattle.qz_values.specs.declared.Know.TheVariants as know
use Rattle.qz_syntax.specs.declared.declarations.Dir.TheVariants as dir
use Rattle.qz_syntax.specs.declared.modules.Module.{Module}
use Rattle.qz_syntax.specs.declared.places.Place.{Place}
use Rattle.qz_syntax.specs.declared.places.Store.{Store}
use Rattle.qz_meaning.specs.Instances.{formal_instance}
use Rattle.qz_meaning.specs.Programs.{Program, program_of, instances_of, formals_of}
use Rattle.qz_meaning.specs.Configurations.{Configuration, layout_of}
use Rattle.qz_meaning.specs.Settling.{Environment, body_under, met_at, met_outputs}
use Rattle.qz_meaning.specs.Rounds.{round, IsPlain, IsPlainAt, IsDefinite}
use Rattle.qz_meaning.specs.MacroSteps.{IsStep, IsSolution, next_place}
use Rattle.qz_meaning.specs.StepLaws.{HasOneStep}
use Rattle.qz_meaning.proofs.Lists.{all_parts}
use Rattle.qz_meaning.proofs.NextPlaces.{steps_lead}
use Rattle.qz_meaning.proofs.OneStep.{one_step}
use Rattle.qz_meaning.proofs.Orderly.{own_numbers}
use Rattle.qz_meaning.proofs.RoundsRise.{has_one_least}
use Rattle.qz_meaning.proofs.Solutions.{least_is_solution}
use Rattle.qz_react.specs.declared.environments.Env.{Env}
use Rattle.qz_react.specs.Reacting.{Tells}
use Rattle.qz_interp.specs.declared.doubts.Doubted.{Doubted}
use Rattle.qz_interp.specs.declared.steps.StepRefusal.{StepRefusal}
use Rattle.qz_interp.specs.declared.steps.StepRefusal.TheVariants.{NotDefinite, Memory}
use Rattle.qz_interp.specs.Entering.{blank_slot}
use Rattle.qz_interp.specs.FirstDoubts.{IsFirstDoubt}
use Rattle.qz_interp.specs.Keeping.{value_of_known, outputs_kept}
use Rattle.qz_interp.specs.LastRounds.{IsRefusedFor}
use Rattle.qz_interp.specs.OnlySteps.{IsDecided, FitsStep, IsOnlyStep, IsNotDefinite, IsRefusal, IsDoubtOrMemory}
use Rattle.qz_interp.proofs.KeepingLemmas.{kept_as_stored, known_first, given_known}
use Rattle.qz_interp.proofs.LastLemmas.{doubted_is_not_definite}
use Rattle.qz_interp.proofs.RunLemmas.{tells_round}

-- a step that is refused for a doubt isn't definite
pub not_definite : (p : Program) (c : Configuration) (row : List Value) (d : Doubted) → IsRefusedFor p c row d → IsNotDefinite p c row d
not_definite p c row d refused = record {
  refused = refused;
  indefinite = doubted_is_not_definite p c row refused.is_least.number d refused.is_least.last
      (subst (λ (e : Environment). IsFirstDoubt p c e d) refused.is_least.is refused.first);
}

pub refusal : (m : Module) (c : Configuration) (row : List Value) (env : Env) (d : Doubted) (answer : StepRefusal) → IsDecided m c row env (Some d)
    → IsDoubtOrMemory d answer → IsRefusal (program_of m) c row answer
refusal m c row env d (NotDefinite instance delayed doubt) decided is =
    subst (IsNotDefinite (program_of m) c row) is (not_definite (program_of m) c row d decided.decides)
refusal m c row env d Memory decided is = tt

module _ (m : Module) (c : Configuration) (row : List Value) (room : ℕ) (fits : FitsStep m c row room) (env : Env) (decided : IsDecided m c row env None) where
  abbrev p : Program
  p = program_of m

  abbrev e : Environment
  e = round (program_of m) c row decided.last.number

  definite : IsDefinite (program_of m) c row
  definite = decided.decides

  pub tells : Tells (program_of m) env (round (program_of m) c row decided.last.number)
  tells = tells_round m fits.well_formed.numbered c row decided.last.number env decided.inputs decided.last.lists

  same : definite.least ≡ round (program_of m) c row decided.last.number
  same =
      (has_one_least p c row).only definite.least definite.is_least
      ∙ sym ((has_one_least p c row).only (round p c row decided.last.number) record { number = decided.last.number; last = decided.last.last; is = refl })

  solution : IsSolution (program_of m) c row (round (program_of m) c row decided.last.number)
  solution = subst (IsSolution p c row) same (least_is_solution p c row (own_numbers m fits.well_formed.numbered) definite)

  plain_outputs : AllByRecursion (IsPlainAt (round (program_of m) c row decided.last.number)) (met_outputs (formals_of dir.Out m) c.outputs)
  plain_outputs =
      (all_parts (IsPlainAt e) (met_outputs (formals_of dir.Out m) c.outputs) (met_at (layout_of p) c.place)
      (subst (λ (env : Environment). IsPlain p c env) same definite.plain)).0

  module _ (at : Place) (outputs : List Store) (values : List Value)
      (place_is : (e : Environment) → Tells (program_of m) env e → at ≡ next_place (body_under (program_of m) e) c.place)
      (outputs_are : outputs ≡ outputs_kept (map (blank_slot m) (instances_of m)) env.now.items env.later.items (length c.outputs))
      (values_are : room ≡ length (take room env.now.items) → values ≡ map value_of_known (take room env.now.items)) where
    abbrev next : Configuration
    next = record { place = at; outputs = outputs }

    first : take room env.now.items ≡ map (λ n. (round (program_of m) c row decided.last.number).now (formal_instance n)) (formals_of dir.Out m)
    first = ap (λ n. take n env.now.items) fits.room ∙ known_first m e env.now.items env.later.items decided.last.lists

    given : values ≡ map value_of_known (map (λ n. (round (program_of m) c row decided.last.number).now (formal_instance n)) (formals_of dir.Out m))
    given = values_are (fits.room ∙ sym (ap length first ∙ length-map (formals_of dir.Out m) (λ n. (round (program_of m) c row decided.last.number).now (formal_instance n)))) ∙ ap (map value_of_known) first

    is_step : IsStep (program_of m) c row values record { place = at; outputs = outputs }
    is_step = record {
      values = e;
      solution = solution;
      outputs_are = given_known e (formals_of dir.Out m) c.outputs fits.valuation.configuration.outputs plain_outputs ∙ ap (map (λ v. know.Known v)) (sym given);
      next_is = ap₂ (λ (place : Place) (stores : List Store). record { place = place; outputs = stores }) (place_is e tells)
          (outputs_are ∙ ap (outputs_kept (map (blank_slot m) (instances_of m)) env.now.items env.later.items) fits.valuation.configuration.outputs
          ∙ kept_as_stored m e env.now.items env.later.items decided.last.lists);
    }

    one : HasOneStep (program_of m) c row
    one = one_step m fits.well_formed c row definite

    pub only_step : IsOnlyStep (program_of m) c row values record { place = at; outputs = outputs }
    only_step = record {
      definite = definite;
      step = is_step;
      one_solution = one.one_solution;
      only_outputs = λ others after step. one.only_outputs others after step ∙ sym (one.only_outputs values next is_step);
      only_next = λ others after step. one.only_next others after step ∙ sym (one.only_next values next is_step);
      leads = steps_lead p c row values next is_step;
    }
