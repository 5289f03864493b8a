use Rattle.std.proofs.Common.{[], ◌∷◌, refl}
use Rattle.qz_meaning.specs.Instances.{formal_instance}
use Rattle.qz_meaning.specs.Examples.{with_true}
use Rattle.qz_meaning.specs.CallExamples.{ReadsAnew}
use Rattle.qz_meaning.proofs.Walking.{walking, laying}
use Rattle.qz_meaning.proofs.Situations.{at_first, at_rest}
use Rattle.qz_meaning.proofs.Evaluating.{evaluating}
use Rattle.qz_meaning.proofs.Resting.{resting}

pub reads_anew : ReadsAnew
reads_anew = record {
  first = record {
    values = with_true (formal_instance 0 ∷ []);
    solution = record {
      valuation = at_first _ _ refl;
      inputs = refl;
      plain = simp laying (record { now = tt; later = tt }, tt);
      settled = simp (walking, laying, evaluating) (record { now = refl; later = refl }, tt);
    };
    outputs_are = refl;
    next_is = simp walking;
  };
  second = record {
    values = with_true (formal_instance 1 ∷ []);
    solution = record {
      valuation = at_rest _ _ _ _ (simp (laying, resting)) refl refl;
      inputs = refl;
      plain = simp (laying, resting) (record { now = tt; later = tt }, tt);
      settled = simp (walking, laying, evaluating, resting) (record { now = refl; later = refl }, tt);
    };
    outputs_are = refl;
    next_is = simp (walking, evaluating, resting);
  };
}
