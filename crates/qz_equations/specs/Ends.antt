-- What the nets say after the last round, where all is known, and what registers take then.
use Rattle.std.specs.Prelude.{ℕ, ◌≡◌, Bool, true, List, map, length, Option, Some, slice_get, slice_index_or}
use Rattle.std.specs.Option.{option_map_or}
use Rattle.std.specs.List.{range_with_len}
use Rattle.qz_values.specs.declared.Ty.{Ty}
use Rattle.qz_values.specs.declared.Ty.TheVariants.{Bool as Truth}
use Rattle.qz_values.specs.declared.Know.{Know}
use Rattle.qz_values.specs.declared.Know.TheVariants.{Unknown}
use Rattle.qz_values.specs.Values.{is_yes}
use Rattle.qz_nets.specs.Readings.{count, type_in, listed}
use Rattle.qz_syntax.specs.declared.places.Later.{Later}
use Rattle.qz_syntax.specs.declared.places.Later.TheVariants as later
use Rattle.qz_syntax.specs.declared.places.Store.{Store}
use Rattle.qz_verilog.specs.declared.nets.Ref.{Ref}
use Rattle.qz_verilog.specs.Types.{NetTypes, net_type}
use Rattle.qz_values.specs.Fits.{IsOf}
use Rattle.qz_verilog.specs.Validity.{IsNetOf}
use Rattle.qz_verilog.specs.Meaning.{Nets, value_at}
use Rattle.qz_meaning.specs.Scenes.{store_of, default_store}
use Rattle.qz_meaning.specs.Settling.{settled_later}
use Rattle.qz_system.specs.declared.parts.Cell.{Cell}
use Rattle.qz_system.specs.declared.parts.Inst.{Inst}
use Rattle.qz_system.specs.declared.parts.SystemParts.{SystemParts}
use Rattle.qz_system.specs.declared.valuation.Valuation.{Valuation}
use Rattle.qz_system.specs.Valuations.{Fits}
use Rattle.qz_system.specs.Writers.{verdict_of}
use Rattle.qz_system.specs.Nexts.{is_known, is_told, rests_next, next_store}
use Rattle.qz_wires.specs.Rails.{ShowEach}
use Rattle.qz_wires.specs.NetRails.{AreNetRails}
use Rattle.qz_equations.specs.declared.tallies.StoreNets.{StoreNets}
use Rattle.qz_equations.specs.declared.ends.LastRails.{LastRails}
use Rattle.qz_equations.specs.Tallies.{ShowVerdicts, ShowsStore, IsStoreOf}
use Rattle.qz_equations.specs.Unrolled.{AreInstanceRails, AreTallies}

-- rails and tallies of the last round, of their types
pub record AreLast (types : NetTypes) (parts : SystemParts) (last : LastRails) : Type 0 where
  pub instances : AreInstanceRails types parts last.instances.items
  pub nets : AreNetRails types parts.table last.nets.items
  pub net_count : length last.nets.items ≡ count parts.table
  pub delayed : AreTallies types parts last.delayed.items

-- they say what is known
pub record IsShown (parts : SystemParts) (settled : Nets) (last : LastRails) (knows : List Know) (know : ℕ → Know) : Type 0 where
  pub instances : ShowEach settled last.instances.items (listed knows)
  pub nets : ShowEach settled last.nets.items know
  pub delayed : ShowVerdicts settled last.delayed.items (λ n. verdict_of know n true parts.acts)

-- they say what is known, and all is known
pub record Ends (parts : SystemParts) (settled : Nets) (last : LastRails) (knows : List Know) (laters : List Later) (know : ℕ → Know) : Type 0 where
  pub instances : ShowEach settled last.instances.items (listed knows)
  pub nets : ShowEach settled last.nets.items know
  pub delayed : ShowVerdicts settled last.delayed.items (λ n. verdict_of know n true parts.acts)
  pub known : (n : ℕ) (one : Inst) → slice_get parts.instances n ≡ Some one → is_known (slice_index_or knows n Unknown) ≡ true
  pub later_is : (n : ℕ) (one : Inst) → slice_get parts.instances n ≡ Some one → slice_index_or laters n later.Unknown ≡ settled_later (verdict_of know n true parts.acts)
  pub told : (n : ℕ) (one : Inst) → slice_get parts.instances n ≡ Some one → is_told (slice_index_or laters n later.Unknown) ≡ true
  pub plain : (n : ℕ) (ty : Ty) → type_in parts.table n ≡ Some ty → is_known (know n) ≡ true

-- flags, and what they say
pub record AreFlags (types : NetTypes) (flags : List Ref) : Type 0 where
  pub each : (n : ℕ) (net : Ref) → slice_get flags n ≡ Some net → IsNetOf types Truth net

abbrev pub ShowFlags : Nets → List Ref → (ℕ → Bool) → Type 0
ShowFlags nets flags bits = (n : ℕ) (net : Ref) → slice_get flags n ≡ Some net → is_yes (value_at nets net) ≡ bits n

-- the store that comes from an instance of a cell
abbrev pub store_at : List Know → List Later → Cell → ℕ → Store
store_at knows laters cell i = store_of cell.class cell.ty (slice_index_or knows i Unknown) (slice_index_or laters i later.Unknown)

-- the store that comes from some instance, or none
abbrev pub coming : List Know → List Later → Cell → Option ℕ → Store
coming knows laters cell from = option_map_or (λ i. store_at knows laters cell i) from (default_store cell.ty)

-- the nets of a store for each of the first cells, each of its cell's type
pub record AreStores (types : NetTypes) (parts : SystemParts) (stores : List StoreNets) : Type 0 where
  pub each : (n : ℕ) (cell : Cell) (place : StoreNets) → slice_get parts.cells n ≡ Some cell → slice_get stores n ≡ Some place → IsStoreOf types cell.ty place

-- each holds the store that comes from the instance that the function gives
abbrev pub ShowStores : Nets → SystemParts → List StoreNets → List Know → List Later → (ℕ → Option ℕ) → Type 0
ShowStores nets parts stores knows laters from = (n : ℕ) (cell : Cell) (place : StoreNets) → slice_get parts.cells n ≡ Some cell → slice_get stores n ≡ Some place
    → ShowsStore nets place (coming knows laters cell (from n))

-- each net has a value of its type
abbrev pub HaveValues : NetTypes → Nets → Type 0
HaveValues types nets = (net : Ref) (t : Ty) → net_type types net ≡ Some t → IsOf t (value_at nets net)

-- the valuation comes next by what is known, but for its inputs
pub record ComesNext (parts : SystemParts) (know : ℕ → Know) (knows : List Know) (laters : List Later) (w : Valuation) : Type 0 where
  pub fits : Fits parts w
  pub started : w.started ≡ true
  pub places : w.places.items ≡ map (λ place. rests_next parts know place) (range_with_len 0 (length parts.places))
  pub stores : (n : ℕ) (cell : Cell) → slice_get parts.cells n ≡ Some cell → slice_get w.stores.items n ≡ Some (next_store parts know knows laters n cell)
