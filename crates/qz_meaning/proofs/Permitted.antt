use Rattle.std.proofs.Common.{ℕ, List, [], ◌∷◌, refl, ap}
use Rattle.std.proofs.lemmas.Bool.{false≢true}
use Rattle.qz_syntax.specs.declared.places.Store.{Store}
use Rattle.qz_values.specs.Values.{bits_of}
use Rattle.qz_meaning.specs.Simple.{pause, pause_layout}
use Rattle.qz_meaning.specs.Parallels.{parallel, parallel_layout}
use Rattle.qz_meaning.specs.Residing.{residing}
use Rattle.qz_meaning.specs.Configurations.{Configuration}
use Rattle.qz_meaning.specs.Examples.{with_true}
use Rattle.qz_meaning.specs.ValuationExamples.{ArePermitted, both_pausing, IsNoPlaceWhenDone}
use Rattle.qz_meaning.proofs.Walking.{walking, laying}
use Rattle.qz_meaning.proofs.Situations.{at_rest, WrittenOut, rests, solved, stepped}
use Rattle.qz_meaning.proofs.Resting.{resting}
use Rattle.qz_meaning.proofs.Folding.{folding}

-- the bits of the first store
abbrev first_bits : Configuration → ℕ
first_bits c = bits_in c.outputs where
  bits_in : List Store → ℕ
  bits_in [] = 0
  bits_in (store ∷ stores) = bits_of store.value

pub are_permitted : ArePermitted
are_permitted = record {
  kept = record { place = refl; inputs = refl };
  not_at_start = λ h. let differ = ap first_bits h.place in absurd (cc);
  no_mark = λ h. let place = simp folding at h.place in false≢true place;
  no_event = λ h. false≢true h.place;
}

abbrev pausing : WrittenOut both_pausing
pausing = record {
  does = λ step. parallel (residing step) (pause (residing step) 0 ∷ pause (residing step) 1 ∷ []);
  lays = parallel_layout (pause_layout 0 ∷ pause_layout 1 ∷ []);
  does_is = λ step. simp walking;
  lays_is = simp laying;
}

pub is_no_place_when_done : IsNoPlaceWhenDone
is_no_place_when_done = record {
  one_rests = record { place = simp (laying, resting); inputs = refl };
  none_rests = λ h. let place = simp (laying, resting) at h.place in false≢true place;
  ends = stepped both_pausing pausing _ _ (with_true []) _ _
      (solved both_pausing pausing _ _ _ (at_rest _ _ _ _ (rests both_pausing pausing _ (simp resting)) refl refl) refl (simp resting tt) (simp resting tt))
      refl (simp resting);
}
