use Rattle.std.proofs.Common.{◌≡◌, [], ◌∷◌, refl, false}
use Rattle.qz_values.specs.declared.Know.TheVariants.{Known}
use Rattle.qz_values.specs.Values.{yes}
use Rattle.qz_syntax.specs.declared.places.Later.TheVariants as later
use Rattle.qz_meaning.specs.Instances.{formal_instance}
use Rattle.qz_meaning.specs.Accounts.{Write}
use Rattle.qz_meaning.specs.Configurations.{initial}
use Rattle.qz_meaning.specs.Settling.{Environment, step_writes}
use Rattle.qz_meaning.specs.Examples.{always_emitted, at_its_pause, EmitsAlways}
use Rattle.qz_meaning.proofs.Walking.{walking, laying}
use Rattle.qz_meaning.proofs.Situations.{at_first, at_rest}
use Rattle.qz_meaning.proofs.Evaluating.{evaluating}
use Rattle.qz_meaning.proofs.Resting.{resting}

pub o_is_yes : Write
o_is_yes = record { target = formal_instance 0; delayed = false; guard = Known yes; value = Known yes }

pub first_writes : (env : Environment) → step_writes always_emitted (initial always_emitted) env ≡ o_is_yes ∷ []
unfolding o_is_yes
first_writes env = simp (walking, evaluating)

pub again_writes : (env : Environment) → step_writes always_emitted at_its_pause env ≡ o_is_yes ∷ []
unfolding o_is_yes
again_writes env = simp (walking, evaluating, resting)

all_yes : Environment
all_yes = record { now = λ i. Known yes; later = λ i. later.Absent }

pub emits_always : EmitsAlways
unfolding o_is_yes all_yes
emits_always = record {
  first = record {
    values = all_yes;
    solution = record {
      valuation = at_first _ _ refl;
      inputs = refl;
      plain = simp laying (record { now = tt; later = tt }, tt);
      settled = simp (walking, laying, evaluating) (record { now = refl; later = refl }, tt);
    };
    outputs_are = refl;
    next_is = simp walking;
  };
  again = record {
    values = all_yes;
    solution = record {
      valuation = at_rest _ _ _ _ (simp (laying, resting)) refl refl;
      inputs = refl;
      plain = simp (laying, resting) (record { now = tt; later = tt }, tt);
      settled = simp (walking, laying, evaluating, resting) (record { now = refl; later = refl }, tt);
    };
    outputs_are = refl;
    next_is = simp (walking, evaluating, resting);
  };
}
