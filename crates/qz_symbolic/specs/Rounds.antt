-- One round at every valuation at once.
use Rattle.std.specs.Prelude.{◌≡◌, List}
use Rattle.qz_dd.specs.declared.table.Table.{Table}
use Rattle.qz_dd.specs.Tables.{Reading, Reads}
use Rattle.qz_values.specs.declared.Ty.{Ty}
use Rattle.qz_values.specs.declared.Know.TheVariants as know
use Rattle.qz_rails.specs.Rails.{know_in}
use Rattle.qz_syntax.specs.declared.places.Later.TheVariants as later
use Rattle.qz_system.specs.declared.parts.SystemParts.{SystemParts}
use Rattle.qz_system.specs.declared.valuation.Valuation.{Valuation}
use Rattle.qz_system.specs.Rounds.{IsRound}
use Rattle.qz_system.specs.Nexts.{IsFirstRound}
use Rattle.qz_symbolic.specs.declared.rails.InstanceRails.{InstanceRails}
use Rattle.qz_symbolic.specs.Variables.{Spells}
use Rattle.qz_symbolic.specs.Telling.{AreOfType, knows_in, later_in, laters_in}

-- rails of a type that tell nothing at any valuation
pub record IsNothing (table : Table) (ty : Ty) (rails : InstanceRails) : Type 0 where
  pub fits : AreOfType table ty rails
  pub now : (reading : Reading) → Reads reading table → know_in reading ty rails.now ≡ know.Unknown
  pub later : (reading : Reading) → Reads reading table → later_in reading ty rails ≡ later.Unknown

-- at every valuation nothing is known
pub record TellsFirstRound (table : Table) (parts : SystemParts) (rails : List InstanceRails) : Type 0 where
  pub tells : (reading : Reading) → Reads reading table → IsFirstRound parts (knows_in reading parts rails) (laters_in reading parts rails)

-- at every valuation that fits, what is told afterwards is the round after what was told before
pub record TellsRound (table : Table) (parts : SystemParts) (before after : List InstanceRails) : Type 0 where
  pub tells : (reading : Reading) → Reads reading table → (v : Valuation) → Spells parts v reading.bits →
      IsRound parts v (knows_in reading parts before) (knows_in reading parts after) (laters_in reading parts after)
