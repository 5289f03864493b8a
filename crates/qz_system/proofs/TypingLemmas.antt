-- Instances have the types of their cells.
use Rattle.std.proofs.Common.{◌≡◌, ℕ, ◌<◌, List, length, Option, Some, None, refl, subst}
use Rattle.std.specs.Prelude.{slice_get, slice_index_or}
use Rattle.std.specs.Option.{option_map, option_and_then}
use Rattle.std.proofs.lemmas.Option.{slice_get_within}
use Rattle.qz_values.specs.declared.Ty.{Ty}
use Rattle.qz_values.specs.declared.Know.{Know}
use Rattle.qz_values.specs.declared.Know.TheVariants.{Unknown}
use Rattle.qz_values.specs.Types.{IsType}
use Rattle.qz_values.specs.Fits.{HasType}
use Rattle.qz_system.specs.declared.parts.Cell.{Cell}
use Rattle.qz_system.specs.declared.parts.Inst.{Inst}
use Rattle.qz_system.specs.declared.parts.SystemParts.{SystemParts}
use Rattle.qz_system.specs.Parts.{AreParts, cell_type, instance_type}
use Rattle.qz_system.proofs.FitLemmas.{cell_typed}

-- what is known of the first instances is of their types
pub record FirstHaveTypes (parts : SystemParts) (knows : List Know) (count : ℕ) : Type 0 where
  pub each : (n : ℕ) (ty : Ty) → n < count → instance_type parts n ≡ Some ty → HasType ty (slice_index_or knows n Unknown)

module _ (parts : SystemParts) where
  -- an instance that has a type is there
  pub instance_within : (n : ℕ) (ty : Ty) → instance_type parts n ≡ Some ty → n < length parts.instances
  instance_within n ty is = by (slice_get parts.instances n) refl is
    where
      by : (o : Option Inst) → slice_get parts.instances n ≡ o → option_and_then (λ (one : Inst). cell_type parts one.cell) o ≡ Some ty
          → n < length parts.instances
      by None at has = absurd (cc)
      by (Some one) at has = slice_get_within parts.instances n one at

  -- and its type is one that there is
  pub instance_typed : AreParts parts → (n : ℕ) (ty : Ty) → instance_type parts n ≡ Some ty → IsType ty
  instance_typed are n ty is = by (slice_get parts.instances n) is
    where
      cell : (m : ℕ) (o : Option Cell) → slice_get parts.cells m ≡ o → option_map (λ (cell : Cell). cell.ty) o ≡ Some ty → IsType ty
      cell m None at has = absurd (cc)
      cell m (Some one) at has = let same : one.ty ≡ ty = cc in subst IsType same (cell_typed parts are m one at)

      by : (o : Option Inst) → option_and_then (λ (one : Inst). cell_type parts one.cell) o ≡ Some ty → IsType ty
      by None has = absurd (cc)
      by (Some one) has = cell one.cell (slice_get parts.cells one.cell) refl has
