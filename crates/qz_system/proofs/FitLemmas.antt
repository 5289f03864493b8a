-- Stores and inputs of a valuation that fits are values of their types.
use Rattle.std.proofs.Common.{◌≡◌, ℕ, zero, suc, Bool, true, false, List, [], ◌∷◌, Some, get_or, subst}
use Rattle.std.specs.Prelude.{◌&&◌, slice_get, slice_index_or, nat_lt, ◌^◌}
use Rattle.std.proofs.lemmas.Bool.{and_parts, ltb-true, leb-true, false≢true}
use Rattle.qz_values.specs.declared.Ty.{Ty}
use Rattle.qz_values.specs.Types.{IsType, is_type, width_of}
use Rattle.qz_values.specs.Values.{value_of, IsValue}
use Rattle.qz_syntax.specs.declared.declarations.Port.{Port}
use Rattle.qz_system.specs.declared.parts.Cell.{Cell}
use Rattle.qz_system.specs.declared.parts.SystemParts.{SystemParts}
use Rattle.qz_system.specs.declared.valuation.Valuation.{Valuation}
use Rattle.qz_system.specs.Parts.{AreParts}
use Rattle.qz_system.specs.Valuations.{holds, hold_inputs, hold_stores, no_store, store_of, Fits}
use Rattle.qz_system.proofs.Finding.{all_at}

pub type_there : (ty : Ty) → is_type ty ≡ true → IsType ty
type_there ty h =
    let p = and_parts _ _ h in
    record { at_least_1 = leb-true _ _ p.0; at_most_64 = leb-true _ _ p.1 }

pub value_there : (ty : Ty) (bits : ℕ) → holds ty bits ≡ true → IsValue (value_of ty bits)
value_there ty bits h =
    let p = and_parts _ _ h in
    record { typed = type_there ty p.0; fits = ltb-true _ _ p.1 }

inputs_hold : (ports : List Port) (inputs : List ℕ) → hold_inputs ports inputs ≡ true → (n : ℕ) (port : Port) → slice_get ports n ≡ Some port
    → holds port.ty (get_or inputs n 0) ≡ true
inputs_hold [] inputs h n port at = absurd (cc)
inputs_hold (p ∷ ports) [] h n port at = absurd (false≢true h)
inputs_hold (p ∷ ports) (bits ∷ inputs) h zero port at =
    let same : p ≡ port = cc in subst (λ (x : Port). holds x.ty bits ≡ true) same (and_parts _ _ h).0
inputs_hold (p ∷ ports) (bits ∷ inputs) h (suc n) port at = inputs_hold ports inputs (and_parts _ _ h).1 n port at

stores_hold : (cells : List Cell) (stores : List (Bool × ℕ)) → hold_stores cells stores ≡ true → (n : ℕ) (cell : Cell) → slice_get cells n ≡ Some cell
    → holds cell.ty (get_or stores n no_store).1 ≡ true
stores_hold [] stores h n cell at = absurd (cc)
stores_hold (c ∷ cells) [] h n cell at = absurd (false≢true h)
stores_hold (c ∷ cells) (store ∷ stores) h zero cell at =
    let same : c ≡ cell = cc in subst (λ (x : Cell). holds x.ty store.1 ≡ true) same (and_parts _ _ h).0
stores_hold (c ∷ cells) (store ∷ stores) h (suc n) cell at = stores_hold cells stores (and_parts _ _ h).1 n cell at

pub input_value : (parts : SystemParts) (v : Valuation) → Fits parts v → (n : ℕ) (port : Port) → slice_get parts.inputs n ≡ Some port
    → IsValue (value_of port.ty (slice_index_or v.inputs.items n 0))
input_value parts v fits n port at = value_there _ _ (inputs_hold parts.inputs v.inputs.items fits.values_of_inputs n port at)

pub cell_value : (parts : SystemParts) (v : Valuation) → Fits parts v → (n : ℕ) (cell : Cell) → slice_get parts.cells n ≡ Some cell
    → IsValue (value_of cell.ty (store_of v n).1)
cell_value parts v fits n cell at = value_there _ _ (stores_hold parts.cells v.stores.items fits.values_of_stores n cell at)

pub cell_typed : (parts : SystemParts) → AreParts parts → (n : ℕ) (cell : Cell) → slice_get parts.cells n ≡ Some cell → IsType cell.ty
cell_typed parts are n cell at =
    type_there cell.ty (all_at (λ (c : Cell). is_type c.ty) parts.cells are.is_declared.types_of_cells n cell at)
