-- Rails and tallies of a system's instances in a round, and what an instance settles to.
use Rattle.std.specs.Prelude.{ℕ, ◌≡◌, Bool, ◌||◌, nat_lt, List, length, Some, slice_get, if◌then◌else◌}
use Rattle.std.specs.Option.{option_map_or}
use Rattle.qz_values.specs.declared.Ty.{Ty}
use Rattle.qz_values.specs.declared.Know.{Know}
use Rattle.qz_values.specs.declared.Know.TheVariants.{Unknown}
use Rattle.qz_syntax.specs.declared.places.Store.{Store}
use Rattle.qz_verilog.specs.Types.{NetTypes}
use Rattle.qz_meaning.specs.Scenes.{default_store}
use Rattle.qz_meaning.specs.Verdicts.{Verdict}
use Rattle.qz_system.specs.declared.parts.Cell.{Cell}
use Rattle.qz_system.specs.declared.parts.Inst.{Inst}
use Rattle.qz_system.specs.declared.parts.SystemLeaf.{SystemLeaf}
use Rattle.qz_system.specs.declared.parts.SystemParts.{SystemParts}
use Rattle.qz_system.specs.declared.valuation.Valuation.{Valuation}
use Rattle.qz_system.specs.Parts.{instance_type, leaf_stands}
use Rattle.qz_system.specs.Valuations.{store_of}
use Rattle.qz_system.specs.Rounds.{stored, settles}
use Rattle.qz_wires.specs.declared.rails.Rail.{Rail}
use Rattle.qz_wires.specs.Rails.{IsRail}
use Rattle.qz_equations.specs.declared.tallies.Tally.{Tally}
use Rattle.qz_equations.specs.Tallies.{IsTally}

-- each rail is one of its instance's type
pub record AreFirstRails (types : NetTypes) (parts : SystemParts) (rails : List Rail) : Type 0 where
  pub each : (n : ℕ) (ty : Ty) (rail : Rail) → instance_type parts n ≡ Some ty → slice_get rails n ≡ Some rail → IsRail types ty rail

-- and there is one for each instance
pub record AreInstanceRails (types : NetTypes) (parts : SystemParts) (rails : List Rail) : Type 0 where
  pub count : length rails ≡ length parts.instances
  pub each : (n : ℕ) (ty : Ty) (rail : Rail) → instance_type parts n ≡ Some ty → slice_get rails n ≡ Some rail → IsRail types ty rail

-- rails of leaves, each of the type of what it stands for
pub record AreLeavesOf (types : NetTypes) (parts : SystemParts) (rails : List Rail) : Type 0 where
  pub each : (n : ℕ) (one : SystemLeaf) (ty : Ty) (rail : Rail) → slice_get parts.leaves n ≡ Some one → leaf_stands parts one ≡ Some ty
      → slice_get rails n ≡ Some rail → IsRail types ty rail

-- each tally is one of its instance's type
pub record AreFirstTallies (types : NetTypes) (parts : SystemParts) (tallies : List Tally) : Type 0 where
  pub each : (n : ℕ) (ty : Ty) (tally : Tally) → instance_type parts n ≡ Some ty → slice_get tallies n ≡ Some tally → IsTally types ty tally

-- a tally of writers to each instance, of its type
pub record AreTallies (types : NetTypes) (parts : SystemParts) (tallies : List Tally) : Type 0 where
  pub count : length tallies ≡ length parts.instances
  pub each : (n : ℕ) (ty : Ty) (tally : Tally) → instance_type parts n ≡ Some ty → slice_get tallies n ≡ Some tally → IsTally types ty tally

-- whether an instance begins with what its cell's registers hold. That of a variable which doesn't exist at a permitted
-- valuation has registers that hold a new store
abbrev pub is_kept : SystemParts → Inst → Bool
is_kept parts one = nat_lt one.cell (length parts.outputs) || one.zero

-- the store with which an instance begins, at a permitted valuation
abbrev pub begun : SystemParts → Valuation → Inst → Cell → Store
begun parts v one cell = if is_kept parts one then stored cell.ty (store_of v one.cell) else default_store cell.ty

-- what the instance with a number settles to by the verdict on its writers
abbrev pub settles_at : SystemParts → Valuation → ℕ → Verdict → Know
settles_at parts v n writers = option_map_or (λ (one : Inst). settles parts v one writers) (slice_get parts.instances n) Unknown
