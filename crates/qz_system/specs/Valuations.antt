-- Valuations of a system: which fit it, which are permitted, and their order.
use Rattle.std.specs.Prelude.{ℕ, ◌≡◌, ◌+◌, ◌<◌, ◌^◌, ◌==◌, Bool, true, false, not, ◌&&◌, ◌||◌, nat_lt, IsTrue, List, [], ◌∷◌, ◌++◌, map, length, Option, Some, slice_get, slice_index_or, if◌then◌else◌}
use Rattle.std.specs.List.{list_all, flat_map, range_with_len}
use Rattle.qz_values.specs.declared.Ty.{Ty}
use Rattle.qz_values.specs.Types.{width_of, is_type}
use Rattle.qz_values.specs.Values.{value_of}
use Rattle.qz_syntax.specs.declared.declarations.Port.{Port}
use Rattle.qz_meaning.specs.Valuations.{is_kept_by, is_set, is_before}
use Rattle.qz_system.specs.declared.parts.Cell.{Cell}
use Rattle.qz_system.specs.declared.parts.SystemParts.{SystemParts}
use Rattle.qz_system.specs.declared.valuation.Valuation.{Valuation}
use Rattle.qz_system.specs.Restings.{resting_of, living_of}

-- whether bits are those of a value of the type
abbrev pub holds : Ty → ℕ → Bool
holds ty bits = is_type ty && nat_lt bits (2 ^ width_of ty)

-- whether each input has a value of its type
abbrev pub hold_inputs : List Port → List ℕ → Bool
hold_inputs [] [] = true
hold_inputs [] (bits ∷ others) = false
hold_inputs (port ∷ ports) [] = false
hold_inputs (port ∷ ports) (bits ∷ others) = holds port.ty bits && hold_inputs ports others

-- whether each cell has a store with a value of its type
abbrev pub hold_stores : List Cell → List (Bool × ℕ) → Bool
hold_stores [] [] = true
hold_stores [] (store ∷ others) = false
hold_stores (cell ∷ cells) [] = false
hold_stores (cell ∷ cells) (store ∷ others) = holds cell.ty store.1 && hold_stores cells others

-- the valuation has the system's lengths and types
pub record Fits (parts : SystemParts) (v : Valuation) : Type 0 where
  pub bits_of_places : length v.places.items ≡ length parts.places
  pub values_of_inputs : IsTrue (hold_inputs parts.inputs v.inputs.items)
  pub values_of_stores : IsTrue (hold_stores parts.cells v.stores.items)

-- whether control rests at a place
abbrev pub rests_at : Valuation → ℕ → Bool
rests_at v place = slice_index_or v.places.items place false

-- a store of nothing: the default without mark
abbrev pub no_store : Bool × ℕ
no_store = (false, 0)

-- the store of a cell
abbrev pub store_of : Valuation → ℕ → Bool × ℕ
store_of v cell = slice_index_or v.stores.items cell no_store

-- whether control rests in the scope of a cell
abbrev pub lives_at : SystemParts → Valuation → ℕ → Bool
lives_at parts v cell = (living_of (rests_at v) cell parts.shape).lives

-- whether the variable of a cell exists: outputs always do
abbrev pub exists_at : SystemParts → Valuation → ℕ → Bool
exists_at parts v cell = nat_lt cell (length parts.outputs) || lives_at parts v cell

-- whether it is the default without mark
abbrev pub is_new : Bool × ℕ → Bool
is_new store = not store.0 && (store.1 == 0)

-- whether a variable can have the store: a mark only where some `next` is applied to it, and an event without mark
-- has its default
abbrev pub is_store_of : Cell → Bool × ℕ → Bool
is_store_of cell store = if store.0 then cell.marked else is_kept_by cell.class (value_of cell.ty store.1)

-- whether the cells from this number on have stores that they can have, and none where they don't exist
abbrev pub have_stores : SystemParts → Valuation → ℕ → List Cell → Bool
have_stores parts v n [] = true
have_stores parts v n (cell ∷ cells) =
    (if exists_at parts v n then is_store_of cell (store_of v n) else is_new (store_of v n)) && have_stores parts v (n + 1) cells

-- whether control rests as the shape permits, or the program has ended
abbrev pub is_place : SystemParts → Valuation → Bool
is_place parts v = (resting_of (rests_at v) parts.shape).nowhere || (resting_of (rests_at v) parts.shape).somewhere

-- whether a valuation is that before the start
abbrev pub is_initial : Valuation → Bool
is_initial v = list_all (λ bit. not bit) v.places.items && list_all (λ store. is_new store) v.stores.items

-- whether a valuation that fits is permitted: the initial one with any inputs; or, once started, each place that
-- the shape permits and the end, with each store and each input
abbrev pub is_permitted : SystemParts → Valuation → Bool
is_permitted parts v = if v.started then is_place parts v && have_stores parts v 0 parts.cells else is_initial v

-- a cell's bits in the group of j: its mark, in the first group alone, and bit j of its value
abbrev pub bits_of_store : ℕ → Bool × ℕ → List Bool
bits_of_store j store = if j == 0 then store.0 ∷ is_set j store.1 ∷ [] else is_set j store.1 ∷ []

-- all bits of a group: the cells', and then the inputs'
abbrev pub bits_of_group : Valuation → ℕ → List Bool
bits_of_group v j = flat_map (bits_of_store j) v.stores.items ++ map (is_set j) v.inputs.items

-- the list of bits: whether it is started, whether control rests at each place, and the groups from bit 0 to bit 63
abbrev pub bits_in_order : Valuation → List Bool
bits_in_order v = v.started ∷ v.places.items ++ flat_map (bits_of_group v) (range_with_len 0 64)

-- the order of valuations
abbrev pub Precedes : Valuation → Valuation → Type 0
Precedes v w = IsTrue (is_before (bits_in_order v) (bits_in_order w))
