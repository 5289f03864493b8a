-- What rails and tallies of a round say, where the nets are known by what was known of the instances before it.
use Rattle.std.specs.Prelude.{ℕ, ◌≡◌, Bool, List, length, Some, slice_get, if◌then◌else◌}
use Rattle.qz_dd.specs.declared.table.Table.{Table}
use Rattle.qz_dd.specs.Tables.{Reading, Reads}
use Rattle.qz_values.specs.declared.Ty.{Ty}
use Rattle.qz_values.specs.declared.Know.{Know}
use Rattle.qz_nets.specs.Readings.{count, type_in, listed, Reads as ReadsNets}
use Rattle.qz_rails.specs.declared.rail.Rail.{Rail}
use Rattle.qz_rails.specs.Rails.{IsRail, know_in}
use Rattle.qz_meaning.specs.Verdicts.{Nobody, join}
use Rattle.qz_tallies.specs.declared.tally.Tally.{Tally}
use Rattle.qz_tallies.specs.Tallies.{IsTally, verdict_in}
use Rattle.qz_system.specs.declared.parts.Act.{Act}
use Rattle.qz_system.specs.declared.parts.SystemLeaf.{SystemLeaf}
use Rattle.qz_system.specs.declared.parts.SystemParts.{SystemParts}
use Rattle.qz_system.specs.declared.valuation.Valuation.{Valuation}
use Rattle.qz_system.specs.Parts.{leaf_stands, instance_type}
use Rattle.qz_system.specs.Writers.{is_to, verdict_of_act, verdict_of}
use Rattle.qz_system.specs.Rounds.{leaf_known, leaves_known}
use Rattle.qz_symbolic.specs.declared.rails.InstanceRails.{InstanceRails}
use Rattle.qz_symbolic.specs.Telling.{knows_in}
use Rattle.qz_symbolic.specs.Views.{Views}

-- a rail of what a leaf stands for
pub record IsLeafRail (table : Table) (parts : SystemParts) (before : List InstanceRails) (one : SystemLeaf) (rail : Rail) : Type 0 where
  pub fits : (ty : Ty) → leaf_stands parts one ≡ Some ty → IsRail table ty rail
  pub says : (ty : Ty) → leaf_stands parts one ≡ Some ty → (reading : Reading) (v : Valuation) → Views table parts v reading →
      know_in reading ty rail ≡ leaf_known parts v (knows_in reading parts before) one

-- a rail of each leaf
pub record AreRailsOfLeaves (table : Table) (parts : SystemParts) (before : List InstanceRails) (rails : List Rail) : Type 0 where
  pub long : length rails ≡ length parts.leaves
  pub each : (n : ℕ) (one : SystemLeaf) (rail : Rail) → slice_get parts.leaves n ≡ Some one → slice_get rails n ≡ Some rail →
      IsLeafRail table parts before one rail

-- the nets are known by what the rails told of the instances at the reading
abbrev pub KnowsNets : SystemParts → Reading → Valuation → List InstanceRails → (ℕ → Know) → Type 0
KnowsNets parts reading v before know =
    ReadsNets (record { leaf = listed (leaves_known parts v (knows_in reading parts before)); know = know }) parts.table

-- the rails are of the nets' types
pub record AreOfTypes (table : Table) (parts : SystemParts) (rails : List Rail) : Type 0 where
  pub long : length rails ≡ count parts.table
  pub each : (n : ℕ) (ty : Ty) (rail : Rail) → type_in parts.table n ≡ Some ty → slice_get rails n ≡ Some rail → IsRail table ty rail

-- a rail of each net
pub record AreRailsOfNets (table : Table) (parts : SystemParts) (before : List InstanceRails) (rails : List Rail) : Type 0 where
  pub fit : AreOfTypes table parts rails
  pub says : (n : ℕ) (ty : Ty) (rail : Rail) → type_in parts.table n ≡ Some ty → slice_get rails n ≡ Some rail →
      (reading : Reading) (v : Valuation) → Views table parts v reading → (know : ℕ → Know) → KnowsNets parts reading v before know →
      know_in reading ty rail ≡ know n

-- the nets are known to be what their rails say at the reading
pub record AreKnown (parts : SystemParts) (reading : Reading) (rails : List Rail) (know : ℕ → Know) : Type 0 where
  pub each : (n : ℕ) (ty : Ty) (rail : Rail) → type_in parts.table n ≡ Some ty → slice_get rails n ≡ Some rail → know_in reading ty rail ≡ know n

-- a tally of each instance, of its type
pub record HaveTallies (table : Table) (parts : SystemParts) (tallies : List Tally) : Type 0 where
  pub long : length tallies ≡ length parts.instances
  pub fits : (n : ℕ) (ty : Ty) (tally : Tally) → instance_type parts n ≡ Some ty → slice_get tallies n ≡ Some tally → IsTally table ty tally

-- each instance's tally has come from another by an act, if that is on the instance and delayed or not as is asked
pub record HaveAct (table : Table) (parts : SystemParts) (rails : List Rail) (delayed : Bool) (act : Act) (old new : List Tally) : Type 0 where
  pub says : (n : ℕ) (ty : Ty) (one next : Tally) → instance_type parts n ≡ Some ty → slice_get old n ≡ Some one → slice_get new n ≡ Some next →
      (reading : Reading) → Reads reading table → (know : ℕ → Know) → AreKnown parts reading rails know →
      verdict_in reading ty next ≡ (if is_to n delayed act then join (verdict_in reading ty one) (verdict_of_act know act) else verdict_in reading ty one)

-- each instance's tally is that of the acts on its value, or of those on its delayed value
pub record AreTallies (table : Table) (parts : SystemParts) (rails : List Rail) (delayed : Bool) (tallies : List Tally) : Type 0 where
  pub have : HaveTallies table parts tallies
  pub says : (n : ℕ) (ty : Ty) (tally : Tally) → instance_type parts n ≡ Some ty → slice_get tallies n ≡ Some tally →
      (reading : Reading) → Reads reading table → (know : ℕ → Know) → AreKnown parts reading rails know →
      verdict_in reading ty tally ≡ verdict_of know n delayed parts.acts

-- each tally is that of no act
pub record AreEmpty (table : Table) (parts : SystemParts) (tallies : List Tally) : Type 0 where
  pub says : (n : ℕ) (ty : Ty) (tally : Tally) → instance_type parts n ≡ Some ty → slice_get tallies n ≡ Some tally →
      (reading : Reading) → Reads reading table → verdict_in reading ty tally ≡ Nobody

-- a tally of no act
pub record IsEmpty (table : Table) (ty : Ty) (tally : Tally) : Type 0 where
  pub fits : IsTally table ty tally
  pub says : (reading : Reading) → Reads reading table → verdict_in reading ty tally ≡ Nobody
