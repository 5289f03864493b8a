-- Instances have cells, and the cells' types.
use Rattle.std.proofs.Common.{◌≡◌, ℕ, ◌<◌, false, [], length, Option, Some, None, refl, sym, ap, ◌∙◌}
use Rattle.std.specs.Prelude.{slice_get}
use Rattle.std.specs.Option.{option_map, option_and_then}
use Rattle.std.proofs.lemmas.Bool.{ltb-true}
use Rattle.std.proofs.lemmas.Option.{slice_get-get_or, same_Some, none-some}
use Rattle.qz_values.specs.declared.Ty.{Ty}
use Rattle.qz_values.specs.declared.Ty.TheVariants.{Bool as Truth}
use Rattle.qz_syntax.specs.declared.declarations.Class.TheVariants.{Event}
use Rattle.qz_system.specs.declared.parts.Cell.{Cell}
use Rattle.qz_system.specs.declared.parts.Inst.{Inst}
use Rattle.qz_system.specs.declared.parts.SystemParts.{SystemParts}
use Rattle.qz_system.specs.Parts.{AreParts, is_instance_right, instance_type, cell_type}
use Rattle.qz_system.proofs.Finding.{all_at}

module _ (parts : SystemParts) where
  -- the cell of an instance is there
  pub cell_within : AreParts parts → (n : ℕ) (one : Inst) → slice_get parts.instances n ≡ Some one → one.cell < length parts.cells
  cell_within are n one at = ltb-true _ _ (all_at (λ (x : Inst). is_instance_right parts x) parts.instances are.is_ordered.instance_cells n one at)

  -- its type is the instance's
  pub type_is : (n : ℕ) (one : Inst) (cell : Cell) → slice_get parts.instances n ≡ Some one → slice_get parts.cells one.cell ≡ Some cell
      → instance_type parts n ≡ Some cell.ty
  type_is n one cell at there =
      ap (λ (o : Option Inst). option_and_then (λ (x : Inst). cell_type parts x.cell) o) at ∙ ap (option_map (λ (c : Cell). c.ty)) there

  pub same_type_of : (n : ℕ) (one : Inst) (cell : Cell) (ty : Ty) → slice_get parts.instances n ≡ Some one → slice_get parts.cells one.cell ≡ Some cell
      → instance_type parts n ≡ Some ty → cell.ty ≡ ty
  same_type_of n one cell ty at there is = same_Some cell.ty ty (sym (type_is n one cell at there) ∙ is)

  -- an instance in range is there
  pub there : (n : ℕ) → n < length parts.instances → (one : Inst) × (slice_get parts.instances n ≡ Some one)
  there n within = by (slice_get parts.instances n) refl
    where
      by : (o : Option Inst) → slice_get parts.instances n ≡ o → (one : Inst) × (slice_get parts.instances n ≡ Some one)
      by None at = absurd (none-some _ (sym at ∙ slice_get-get_or parts.instances n (record { cell = 0; zero = false; text = [] }) within))
      by (Some one) at = (one, at)

  -- a cell in range is there
  pub cell_there : (n : ℕ) → n < length parts.cells → (cell : Cell) × (slice_get parts.cells n ≡ Some cell)
  cell_there n within = by (slice_get parts.cells n) refl
    where
      by : (o : Option Cell) → slice_get parts.cells n ≡ o → (cell : Cell) × (slice_get parts.cells n ≡ Some cell)
      by None at = absurd (none-some _ (sym at ∙ slice_get-get_or parts.cells n (record { class = Event; ty = Truth; marked = false; text = [] }) within))
      by (Some cell) at = (cell, at)
