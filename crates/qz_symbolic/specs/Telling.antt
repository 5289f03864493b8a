-- What the rails of a system's instances tell at a reading of the table of diagrams.
use Rattle.std.specs.Prelude.{ℕ, ◌<◌, ◌≡◌, Bool, List, map, length, Some, slice_get, if◌then◌else◌}
use Rattle.std.specs.Option.{option_map_or}
use Rattle.std.specs.List.{range_with_len}
use Rattle.qz_dd.specs.declared.table.Table.{Table}
use Rattle.qz_dd.specs.Tables.{Reading, count}
use Rattle.qz_values.specs.declared.Ty.{Ty}
use Rattle.qz_values.specs.declared.Know.{Know}
use Rattle.qz_values.specs.declared.Know.TheVariants as know
use Rattle.qz_syntax.specs.declared.places.Later.{Later}
use Rattle.qz_syntax.specs.declared.places.Later.TheVariants as later
use Rattle.qz_rails.specs.Rails.{IsRail, know_in}
use Rattle.qz_system.specs.declared.parts.SystemParts.{SystemParts}
use Rattle.qz_system.specs.Parts.{instance_type}
use Rattle.qz_symbolic.specs.declared.rails.InstanceRails.{InstanceRails}

-- both rails are of the type, and all numbers are of the table
pub record AreOfType (table : Table) (ty : Ty) (rails : InstanceRails) : Type 0 where
  pub now : IsRail table ty rails.now
  pub later : IsRail table ty rails.later
  pub absent : rails.absent.0 < count table

-- each instance has rails of its type
pub record AreInstanceRails (table : Table) (parts : SystemParts) (rails : List InstanceRails) : Type 0 where
  pub count : length rails ≡ length parts.instances
  pub each : (n : ℕ) (ty : Ty) (one : InstanceRails) → instance_type parts n ≡ Some ty → slice_get rails n ≡ Some one →
      AreOfType table ty one

-- a delayed value: whether it is absent, and what else is known of it
abbrev pub later_told : Bool → Know → Later
later_told absent know.Unknown = if absent then later.Absent else later.Unknown
later_told absent (know.Known v) = if absent then later.Absent else later.Known v
later_told absent know.Clash = if absent then later.Absent else later.Clash

-- what is known of a delayed value at the reading's valuation
abbrev pub later_in : Reading → Ty → InstanceRails → Later
later_in reading ty rails = later_told (reading.values rails.absent.0) (know_in reading ty rails.later)

-- what is known of the instance with this number, and of its delayed value
abbrev pub now_at : Reading → SystemParts → List InstanceRails → ℕ → Know
now_at reading parts rails n =
    option_map_or (λ ty. option_map_or (λ (one : InstanceRails). know_in reading ty one.now) (slice_get rails n) know.Unknown)
    (instance_type parts n) know.Unknown

abbrev pub later_at : Reading → SystemParts → List InstanceRails → ℕ → Later
later_at reading parts rails n =
    option_map_or (λ ty. option_map_or (λ (one : InstanceRails). later_in reading ty one) (slice_get rails n) later.Unknown)
    (instance_type parts n) later.Unknown

-- what is known of all instances, and of all delayed values, in instance order
abbrev pub knows_in : Reading → SystemParts → List InstanceRails → List Know
knows_in reading parts rails = map (now_at reading parts rails) (range_with_len 0 (length parts.instances))

abbrev pub laters_in : Reading → SystemParts → List InstanceRails → List Later
laters_in reading parts rails = map (later_at reading parts rails) (range_with_len 0 (length parts.instances))
