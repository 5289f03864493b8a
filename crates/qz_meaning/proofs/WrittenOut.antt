use Rattle.std.proofs.Common.{◌≡◌, ℕ, Bool, true, false, List, [], ◌∷◌, ◌++◌, map, Option, Some, refl, ap, ◌∙◌}
use Rattle.qz_meaning.specs.Valuations.{resting_places, store_among, stores_in_order, group_bits}
use Rattle.qz_meaning.specs.Examples.{byte}
use Rattle.qz_meaning.specs.ScopeExamples.{suspended}
use Rattle.qz_meaning.specs.ValuationExamples.{IsWrittenOut, with_local, HasLocalBits}
use Rattle.std.specs.List.{flat_map, range_with_len}
use Rattle.qz_values.specs.Values.{no}
use Rattle.qz_syntax.specs.declared.places.Store.{Store}
use Rattle.qz_syntax.specs.declared.places.Residual.{Residual}
use Rattle.qz_syntax.specs.declared.places.Residual.TheVariants as residual
use Rattle.qz_syntax.specs.Numbers.{contains}
use Rattle.qz_meaning.specs.Layouts.{Layout}
use Rattle.qz_meaning.proofs.CarriesStores.{suspending}
use Rattle.qz_meaning.proofs.Walking.{laying}
use Rattle.qz_meaning.proofs.Resting.{resting}
use Rattle.qz_meaning.proofs.Folding.{folding, folding_places}

pub is_written_out : IsWrittenOut
is_written_out = record {
  permitted = record { place = simp (laying, resting, folding); inputs = refl };
  bits = simp (folding, folding_places);
  before = simp (folding, folding_places);
}

-- the stores of `y` and of `x`
abbrev y_store : Store
y_store = record { value = byte 0; pending = false }

abbrev x_store : Store
x_store = record { value = byte 5; pending = true }

abbrev at_first_pause : Residual
at_first_pause = residual.InBody (residual.InScope (x_store ∷ []) (residual.InSeq 1 (residual.At 0)))

-- the bits of a program that is started, by where control rests, the places, the stores and the inputs
abbrev bits_by : List ℕ → List ℕ → List (Option Store) → List Bool
bits_by resting places stores =
    true ∷ map (contains resting) places ++ flat_map (λ j. group_bits j stores (no ∷ [])) (range_with_len 0 64)

places_are : suspended.places ≡ 0 ∷ 1 ∷ []
places_are = simp folding

resting_are : resting_places at_first_pause ≡ 0 ∷ []
resting_are = simp folding_places

stores_are : stores_in_order suspended with_local.configuration ≡ Some y_store ∷ Some x_store ∷ []
stores_are =
    ap (λ (l : Layout). Some y_store ∷ store_among (l.stores_at at_first_pause) 0 ∷ []) suspending.lays_is ∙ simp resting

pub has_local_bits : HasLocalBits
has_local_bits = record {
  existing =
      ap (bits_by (resting_places at_first_pause) suspended.places) stores_are
      ∙ ap (λ (places : List ℕ). bits_by (resting_places at_first_pause) places (Some y_store ∷ Some x_store ∷ [])) places_are
      ∙ ap (λ (resting : List ℕ). bits_by resting (0 ∷ 1 ∷ []) (Some y_store ∷ Some x_store ∷ [])) resting_are;
  missing = simp folding;
}
