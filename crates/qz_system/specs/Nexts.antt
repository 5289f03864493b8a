-- The rounds of a system, where a valuation is definite, and which valuation comes next.
use Rattle.std.specs.Prelude.{ℕ, zero, suc, ◌≡◌, ◌+◌, ◌==◌, Bool, true, false, ◌&&◌, nat_lt, List, [], ◌∷◌, map, length, replicate, Option, Some, None, slice_get, slice_index_or, if◌then◌else◌}
use Rattle.std.specs.Option.{option_map_or}
use Rattle.std.specs.List.{All, list_any, range_with_len}
use Rattle.qz_values.specs.declared.Know.{Know}
use Rattle.qz_values.specs.declared.Know.TheVariants as know
use Rattle.qz_values.specs.Values.{bits_of}
use Rattle.qz_values.specs.Knowledge.{knows_yes}
use Rattle.qz_nets.specs.declared.net.NetId.{NetId}
use Rattle.qz_syntax.specs.declared.places.Later.{Later}
use Rattle.qz_syntax.specs.declared.places.Later.TheVariants as later
use Rattle.qz_syntax.specs.declared.places.Store.{Store}
use Rattle.qz_meaning.specs.Scenes.{store_of}
use Rattle.qz_system.specs.declared.parts.Cell.{Cell}
use Rattle.qz_system.specs.declared.parts.Inst.{Inst}
use Rattle.qz_system.specs.declared.parts.Carry.{Carry}
use Rattle.qz_system.specs.declared.parts.SystemParts.{SystemParts}
use Rattle.qz_system.specs.declared.valuation.Valuation.{Valuation}
use Rattle.qz_system.specs.Valuations.{Fits, no_store}
use Rattle.qz_system.specs.Rounds.{IsRound}

-- round 0: nothing is known
pub record IsFirstRound (parts : SystemParts) (knows : List Know) (delayed : List Later) : Type 0 where
  pub values : knows ≡ replicate (length parts.instances) know.Unknown
  pub laters : delayed ≡ replicate (length parts.instances) later.Unknown

-- the round after one that is such
pub record Follows (Before : List Know → List Later → Type 0) (parts : SystemParts) (v : Valuation) (knows : List Know) (delayed : List Later) : Type 0 where
  pub knows_before : List Know
  pub delayed_before : List Later
  pub was : Before knows_before delayed_before
  pub round : IsRound parts v knows_before knows delayed

-- the round with this number
abbrev pub IsNthRound : SystemParts → Valuation → ℕ → List Know → List Later → Type 0
IsNthRound parts v zero knows delayed = IsFirstRound parts knows delayed
IsNthRound parts v (suc n) knows delayed = Follows (IsNthRound parts v n) parts v knows delayed

-- the round after which nothing changes
pub record IsLastRound (parts : SystemParts) (v : Valuation) (knows : List Know) (delayed : List Later) : Type 0 where
  pub number : ℕ
  pub is_nth : IsNthRound parts v number knows delayed
  pub stays : IsRound parts v knows knows delayed

-- whether a value is known
abbrev pub is_known : Know → Bool
is_known know.Unknown = false
is_known (know.Known v) = true
is_known know.Clash = false

-- whether a delayed value is known, or known to be absent
abbrev pub is_told : Later → Bool
is_told later.Unknown = false
is_told later.Absent = true
is_told (later.Known v) = true
is_told later.Clash = false

-- a valuation at which each instance is known in the last round, and each delayed value known or absent
pub record IsDefinite (parts : SystemParts) (v : Valuation) (knows : List Know) (delayed : List Later) : Type 0 where
  pub last : IsLastRound parts v knows delayed
  pub known : All (λ k. is_known k ≡ true) knows
  pub told : All (λ l. is_told l ≡ true) delayed

-- whether control rests next at a place: where some entry of it is true
abbrev pub rests_next : SystemParts → (ℕ → Know) → ℕ → Bool
rests_next parts nets place = list_any (λ (one : ℕ × NetId). (one.0 == place) && knows_yes (nets one.1.0)) parts.nexts

-- the first instance of a cell, among those from a number on
abbrev pub instance_of : ℕ → ℕ → List Inst → Option ℕ
instance_of cell n [] = None
instance_of cell n (one ∷ others) = if one.cell == cell then Some n else instance_of cell (n + 1) others

-- the instance of the first carry of a cell that is true
abbrev pub first_carry : (ℕ → Know) → ℕ → List Carry → Option ℕ
first_carry nets cell [] = None
first_carry nets cell (carry ∷ others) =
    if (carry.cell == cell) && knows_yes (nets carry.when.0) then Some carry.instance else first_carry nets cell others

-- the instance from which a cell takes its next store: an output from its own, a local by its carries
abbrev pub source : SystemParts → (ℕ → Know) → ℕ → Option ℕ
source parts nets cell =
    if nat_lt cell (length parts.outputs) then instance_of cell 0 parts.instances else first_carry nets cell parts.carries

-- a store as a valuation has it
abbrev pub as_bits : Store → Bool × ℕ
as_bits store = (store.pending, bits_of store.value)

-- the next store of a cell: that which comes from an instance, or none
abbrev pub next_store : SystemParts → (ℕ → Know) → List Know → List Later → ℕ → Cell → Bool × ℕ
next_store parts nets knows delayed n cell =
    option_map_or
    (λ i. as_bits (store_of cell.class cell.ty (slice_index_or knows i know.Unknown) (slice_index_or delayed i later.Unknown)))
    (source parts nets n) no_store

-- the valuation that comes next where one is definite. Its inputs are open
pub record IsNext (parts : SystemParts) (v : Valuation) (knows : List Know) (delayed : List Later) (next : Valuation) : Type 0 where
  pub definite : IsDefinite parts v knows delayed
  pub fits_too : Fits parts next
  pub is_started : next.started ≡ true
  pub next_places : next.places.items ≡ map (λ place. rests_next parts definite.last.stays.know place) (range_with_len 0 (length parts.places))
  pub next_stores : (n : ℕ) (cell : Cell) → slice_get parts.cells n ≡ Some cell
      → slice_get next.stores.items n ≡ Some (next_store parts definite.last.stays.know knows delayed n cell)
