use Rattle.std.proofs.Common.{[], ◌∷◌, refl}
use Rattle.qz_meaning.specs.Instances.{formal_instance}
use Rattle.qz_meaning.specs.Examples.{with_true}
use Rattle.qz_meaning.specs.PreemptionExamples.{AbortsStrongly, AbortsWeakly, LeavesAtOnce, LeavesAfterActing, IsHeldBack}
use Rattle.qz_meaning.proofs.Walking.{walking, laying}
use Rattle.qz_meaning.proofs.Situations.{at_first, at_rest, at_end}
use Rattle.qz_meaning.proofs.Evaluating.{evaluating}
use Rattle.qz_meaning.proofs.Resting.{resting}

pub aborts_strongly : AbortsStrongly
aborts_strongly = record {
  first = record {
    values = with_true (formal_instance 1 ∷ []);
    solution = record {
      valuation = at_first _ _ refl;
      inputs = refl;
      plain = simp laying (record { now = tt; later = tt }, (record { now = tt; later = tt }, tt));
      settled = simp (walking, laying, evaluating) (record { now = refl; later = refl }, (record { now = refl; later = refl }, tt));
    };
    outputs_are = refl;
    next_is = simp walking;
  };
  second = record {
    values = with_true (formal_instance 0 ∷ []);
    solution = record {
      valuation = at_rest _ _ _ _ (simp (laying, resting)) refl refl;
      inputs = refl;
      plain = simp (laying, resting) (record { now = tt; later = tt }, (record { now = tt; later = tt }, tt));
      settled = simp (walking, laying, evaluating, resting) (record { now = refl; later = refl }, (record { now = refl; later = refl }, tt));
    };
    outputs_are = refl;
    next_is = simp (walking, evaluating, resting);
  };
  third = record {
    values = with_true ([]);
    solution = record {
      valuation = at_end _ _ _ refl refl;
      inputs = refl;
      plain = (record { now = tt; later = tt }, (record { now = tt; later = tt }, tt));
      settled = (record { now = refl; later = refl }, (record { now = refl; later = refl }, tt));
    };
    outputs_are = refl;
    next_is = refl;
  };
}

pub aborts_weakly : AbortsWeakly
aborts_weakly = record {
  first = record {
    values = with_true (formal_instance 1 ∷ []);
    solution = record {
      valuation = at_first _ _ refl;
      inputs = refl;
      plain = simp laying (record { now = tt; later = tt }, (record { now = tt; later = tt }, tt));
      settled = simp (walking, laying, evaluating) (record { now = refl; later = refl }, (record { now = refl; later = refl }, tt));
    };
    outputs_are = refl;
    next_is = simp walking;
  };
  second = record {
    values = with_true (formal_instance 0 ∷ formal_instance 2 ∷ []);
    solution = record {
      valuation = at_rest _ _ _ _ (simp (laying, resting)) refl refl;
      inputs = refl;
      plain = simp (laying, resting) (record { now = tt; later = tt }, (record { now = tt; later = tt }, tt));
      settled = simp (walking, laying, evaluating, resting) (record { now = refl; later = refl }, (record { now = refl; later = refl }, tt));
    };
    outputs_are = refl;
    next_is = simp (walking, evaluating, resting);
  };
  third = record {
    values = with_true ([]);
    solution = record {
      valuation = at_end _ _ _ refl refl;
      inputs = refl;
      plain = (record { now = tt; later = tt }, (record { now = tt; later = tt }, tt));
      settled = (record { now = refl; later = refl }, (record { now = refl; later = refl }, tt));
    };
    outputs_are = refl;
    next_is = refl;
  };
}

pub is_held_back : IsHeldBack
is_held_back = record {
  first = record {
    values = with_true (formal_instance 0 ∷ []);
    solution = record {
      valuation = at_first _ _ refl;
      inputs = refl;
      plain = simp laying (record { now = tt; later = tt }, tt);
      settled = simp (walking, laying, evaluating) (record { now = refl; later = refl }, tt);
    };
    outputs_are = refl;
    next_is = simp (walking, evaluating);
  };
  second = record {
    values = with_true (formal_instance 0 ∷ []);
    solution = record {
      valuation = at_rest _ _ _ _ (simp (laying, resting)) refl refl;
      inputs = refl;
      plain = simp (laying, resting) (record { now = tt; later = tt }, tt);
      settled = simp (walking, laying, evaluating, resting) (record { now = refl; later = refl }, tt);
    };
    outputs_are = refl;
    next_is = simp (walking, evaluating, resting);
  };
  third = record {
    values = with_true (formal_instance 1 ∷ []);
    solution = record {
      valuation = at_rest _ _ _ _ (simp (laying, resting)) refl refl;
      inputs = refl;
      plain = simp (laying, resting) (record { now = tt; later = tt }, tt);
      settled = simp (walking, laying, evaluating, resting) (record { now = refl; later = refl }, tt);
    };
    outputs_are = refl;
    next_is = simp (walking, evaluating, resting);
  };
}

pub leaves_at_once : LeavesAtOnce
leaves_at_once = record {
  values = with_true (formal_instance 0 ∷ formal_instance 2 ∷ []);
  solution = record {
    valuation = at_first _ _ refl;
    inputs = refl;
    plain = simp laying (record { now = tt; later = tt }, (record { now = tt; later = tt }, tt));
    settled = simp (walking, laying, evaluating) (record { now = refl; later = refl }, (record { now = refl; later = refl }, tt));
  };
  outputs_are = refl;
  next_is = simp (walking, evaluating);
}

pub leaves_after_acting : LeavesAfterActing
leaves_after_acting = record {
  values = with_true (formal_instance 0 ∷ formal_instance 1 ∷ formal_instance 2 ∷ []);
  solution = record {
    valuation = at_first _ _ refl;
    inputs = refl;
    plain = simp laying (record { now = tt; later = tt }, (record { now = tt; later = tt }, tt));
    settled = simp (walking, laying, evaluating) (record { now = refl; later = refl }, (record { now = refl; later = refl }, tt));
  };
  outputs_are = refl;
  next_is = simp (walking, evaluating);
}
