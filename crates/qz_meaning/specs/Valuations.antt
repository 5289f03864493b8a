-- Permitted valuations: every place that the syntax permits, with every store and every input; and their
-- order, which is that of lists of bits.
use Rattle.std.specs.Prelude.{ℕ, ◌≡◌, ◌/◌, ◌%◌, ◌^◌, Bool, true, false, ◌==◌, ◌&&◌, IsTrue, List, [], ◌∷◌, ◌++◌, map, Option, Some, None, if◌then◌else◌}
use Rattle.std.specs.Option.{option_map_or}
use Rattle.std.specs.List.{list_all, flat_map, range_with_len}
use Rattle.qz_values.specs.declared.Value.{Value}
use Rattle.qz_values.specs.Values.{bits_of}
use Rattle.qz_syntax.specs.declared.declarations.Class.{Class}
use Rattle.qz_syntax.specs.declared.declarations.Class.TheVariants.{Event, Mem}
use Rattle.qz_syntax.specs.declared.expressions.Var.{Var}
use Rattle.qz_syntax.specs.declared.expressions.Var.TheVariants as var
use Rattle.qz_syntax.specs.declared.places.Store.{Store}
use Rattle.qz_syntax.specs.declared.places.Residual.{Residual}
use Rattle.qz_syntax.specs.declared.places.Residual.TheOpen.{Residual-F}
use Rattle.qz_syntax.specs.declared.places.Residual.TheFolds.{fold-Residual}
use Rattle.qz_syntax.specs.declared.places.Place.{Place}
use Rattle.qz_syntax.specs.declared.places.Place.TheVariants as place
use Rattle.qz_syntax.specs.Numbers.{contains}
use Rattle.qz_meaning.specs.Programs.{Program}
use Rattle.qz_meaning.specs.Configurations.{Configuration, layout_of, is_of_type, IsRow, initial}

-- a configuration and a row of inputs
pub record Valuation : Type 0 where
  pub configuration : Configuration
  pub inputs : List Value

-- one residual, with the places of the parts inside it in their place
abbrev pub node_places : Residual-F (List ℕ) → List ℕ
node_places (Residual-F.At place) = place ∷ []
node_places (Residual-F.Hold place) = place ∷ []
node_places (Residual-F.InSeq member inside) = inside
node_places (Residual-F.InPar branches) = flat_map (λ branch. option_map_or (λ places. places) branch []) branches
node_places (Residual-F.InIf side inside) = inside
node_places (Residual-F.InBody inside) = inside
node_places (Residual-F.InScope stores inside) = inside
node_places (Residual-F.InCall number) = []

-- the numbers of the places where control rests
abbrev pub resting_places : Residual → List ℕ
resting_places = fold-Residual (List ℕ) node_places

-- one residual, with the calls of the parts inside it in their place
abbrev pub node_calls : Residual-F (List ℕ) → List ℕ
node_calls (Residual-F.At place) = []
node_calls (Residual-F.Hold place) = []
node_calls (Residual-F.InSeq member inside) = inside
node_calls (Residual-F.InPar branches) = flat_map (λ branch. option_map_or (λ calls. calls) branch []) branches
node_calls (Residual-F.InIf side inside) = inside
node_calls (Residual-F.InBody inside) = inside
node_calls (Residual-F.InScope stores inside) = inside
node_calls (Residual-F.InCall number) = number ∷ []

-- the numbers of the calls in which control rests
abbrev pub resting_calls : Residual → List ℕ
resting_calls = fold-Residual (List ℕ) node_calls

-- an event without mark has its default
abbrev pub is_kept_by : Class → Value → Bool
is_kept_by Event v = bits_of v == 0
is_kept_by Mem v = true

-- a store that a variable can have: any value of its type, with a mark only where some `next` is applied to it
abbrev pub is_store_of : Program → Var → Store → Bool
is_store_of p variable store =
    is_of_type (p.type_of variable) store.value
    && (if store.pending then p.is_delayed variable else is_kept_by (p.class_of variable) store.value)

-- for each output a store that it can have
abbrev pub are_output_stores : Program → List ℕ → List Store → Bool
are_output_stores p [] [] = true
are_output_stores p [] (store ∷ stores) = false
are_output_stores p (n ∷ numbers) [] = false
are_output_stores p (n ∷ numbers) (store ∷ stores) = is_store_of p (var.Formal n) store && are_output_stores p numbers stores

-- each of these locals has a store that it can have
abbrev pub are_local_stores : Program → List (ℕ × Store) → Bool
are_local_stores p stores = list_all (λ (one : ℕ × Store). is_store_of p (var.Local one.0) one.1) stores

-- a configuration that is permitted: not started with the initial stores, or any place that fits, or the
-- end, with any stores
abbrev pub IsPermittedPlace : Program → Configuration → Place → Type 0
IsPermittedPlace p c place.NotStarted = c ≡ initial p
IsPermittedPlace p c (place.Rest r) =
    IsTrue ((layout_of p).fits r && (are_local_stores p ((layout_of p).stores_at r) && are_output_stores p p.outputs c.outputs))
IsPermittedPlace p c place.Ended = IsTrue (are_output_stores p p.outputs c.outputs)

-- a valuation that is permitted
pub record IsPermitted (p : Program) (v : Valuation) : Type 0 where
  pub place : IsPermittedPlace p v.configuration v.configuration.place
  pub inputs : IsRow p v.inputs

-- whether the program is started, also where it has ended
abbrev pub is_started : Place → Bool
is_started place.NotStarted = false
is_started (place.Rest r) = true
is_started place.Ended = true

-- whether control rests at a place
abbrev pub rests_at : Place → ℕ → Bool
rests_at place.NotStarted n = false
rests_at (place.Rest r) n = contains (resting_places r) n
rests_at place.Ended n = false

-- the stores of the locals that exist at a place, by the locals' numbers
abbrev pub stores_at_place : Program → Place → List (ℕ × Store)
stores_at_place p place.NotStarted = []
stores_at_place p (place.Rest r) = (layout_of p).stores_at r
stores_at_place p place.Ended = []

-- the store of the local with this number, if it exists
abbrev pub store_among : List (ℕ × Store) → ℕ → Option Store
store_among [] n = None
store_among (one ∷ others) n = if one.0 == n then Some one.1 else store_among others n

-- the stores in instance order: the outputs', and each local's where it exists
abbrev pub stores_in_order : Program → Configuration → List (Option Store)
stores_in_order p c =
    map (λ store. Some store) c.outputs
    ++ map (λ n. store_among (stores_at_place p c.place) n) (range_with_len 0 p.locals)

-- bit j of a number
abbrev pub is_set : ℕ → ℕ → Bool
is_set j n = (n / 2 ^ j) % 2 == 1

-- a variable's bits in the group of j: its mark, in the first group alone, and bit j of its value
abbrev pub store_bits : ℕ → Option Store → List Bool
store_bits j None = (if j == 0 then false ∷ false ∷ [] else false ∷ [])
store_bits j (Some store) =
    if j == 0 then store.pending ∷ is_set j (bits_of store.value) ∷ [] else is_set j (bits_of store.value) ∷ []

-- all bits of a group: the variables', and then the inputs'
abbrev pub group_bits : ℕ → List (Option Store) → List Value → List Bool
group_bits j stores inputs = flat_map (λ store. store_bits j store) stores ++ map (λ v. is_set j (bits_of v)) inputs

-- the list of bits: whether it is started, whether control rests at each place in tree order, and the
-- groups from bit 0 to bit 63
abbrev pub bits_of_valuation : Program → Valuation → List Bool
bits_of_valuation p v =
    is_started v.configuration.place ∷ map (rests_at v.configuration.place) p.places
    ++ flat_map (λ j. group_bits j (stores_in_order p v.configuration) v.inputs) (range_with_len 0 64)

-- false comes before true, and the first difference decides
abbrev pub is_before : List Bool → List Bool → Bool
is_before [] bits = false
is_before (bit ∷ bits) [] = false
is_before (false ∷ bits) (false ∷ others) = is_before bits others
is_before (false ∷ bits) (true ∷ others) = true
is_before (true ∷ bits) (false ∷ others) = false
is_before (true ∷ bits) (true ∷ others) = is_before bits others

-- the order of valuations
abbrev pub ComesBefore : Program → Valuation → Valuation → Type 0
ComesBefore p v w = IsTrue (is_before (bits_of_valuation p v) (bits_of_valuation p w))
