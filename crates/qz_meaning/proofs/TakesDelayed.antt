use Rattle.std.proofs.Common.{ℕ, refl}
use Rattle.qz_values.specs.declared.Know.TheVariants.{Known}
use Rattle.qz_syntax.specs.declared.places.Later.{Later}
use Rattle.qz_syntax.specs.declared.places.Later.TheVariants as later
use Rattle.qz_meaning.specs.Settling.{Environment}
use Rattle.qz_meaning.specs.Examples.{byte}
use Rattle.qz_meaning.specs.WriterExamples.{TakesDelayed}
use Rattle.qz_meaning.proofs.Walking.{walking, laying}
use Rattle.qz_meaning.proofs.Situations.{at_first, at_rest, at_end}
use Rattle.qz_meaning.proofs.Evaluating.{evaluating}
use Rattle.qz_meaning.proofs.Resting.{resting}

-- each instance has this byte, and this is delayed for it
all_byte : ℕ → Later → Environment
all_byte n delayed = record { now = λ i. Known (byte n); later = λ i. delayed }

pub takes_delayed : TakesDelayed
unfolding all_byte
takes_delayed = record {
  first = record {
    values = all_byte 0 (later.Known (byte 1));
    solution = record {
      valuation = at_first _ _ refl;
      inputs = refl;
      plain = simp laying (record { now = tt; later = tt }, tt);
      settled = simp (walking, laying, evaluating) (record { now = refl; later = refl }, tt);
    };
    outputs_are = refl;
    next_is = simp walking;
  };
  second = record {
    values = all_byte 1 later.Absent;
    solution = record {
      valuation = at_rest _ _ _ _ (simp (laying, resting)) refl refl;
      inputs = refl;
      plain = simp (laying, resting) (record { now = tt; later = tt }, tt);
      settled = simp (walking, laying, evaluating, resting) (record { now = refl; later = refl }, tt);
    };
    outputs_are = refl;
    next_is = simp (walking, resting);
  };
  third = record {
    values = all_byte 1 later.Absent;
    solution = record {
      valuation = at_end _ _ _ refl refl;
      inputs = refl;
      plain = (record { now = tt; later = tt }, tt);
      settled = (record { now = refl; later = refl }, tt);
    };
    outputs_are = refl;
    next_is = refl;
  };
}
