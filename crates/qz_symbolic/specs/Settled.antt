-- What instances settle to, by the tallies of their acts.
use Rattle.std.specs.Prelude.{ℕ, ◌≡◌, Bool, true, false, List, length, Some, slice_get}
use Rattle.qz_dd.specs.declared.table.Table.{Table}
use Rattle.qz_dd.specs.Tables.{Reading}
use Rattle.qz_values.specs.declared.Ty.{Ty}
use Rattle.qz_rails.specs.Rails.{know_in}
use Rattle.qz_meaning.specs.Verdicts.{Verdict, Nobody, Open, One, Torn}
use Rattle.qz_meaning.specs.Settling.{settled_later}
use Rattle.qz_tallies.specs.declared.tally.Tally.{Tally}
use Rattle.qz_tallies.specs.Tallies.{verdict_in}
use Rattle.qz_system.specs.declared.parts.Inst.{Inst}
use Rattle.qz_system.specs.declared.parts.SystemParts.{SystemParts}
use Rattle.qz_system.specs.declared.valuation.Valuation.{Valuation}
use Rattle.qz_system.specs.Parts.{instance_type}
use Rattle.qz_system.specs.Rounds.{settles}
use Rattle.qz_symbolic.specs.declared.rails.InstanceRails.{InstanceRails}
use Rattle.qz_symbolic.specs.Telling.{AreOfType, later_in}
use Rattle.qz_symbolic.specs.Views.{Views}

-- whether no writer is enabled
abbrev pub is_nobody : Verdict → Bool
is_nobody Nobody = true
is_nobody Open = false
is_nobody (One v) = false
is_nobody Torn = false

-- the instance with a number settles to what the rails say
pub record IsSettledBy (table : Table) (parts : SystemParts) (n : ℕ) (now later : List Tally) (rails : InstanceRails) : Type 0 where
  pub fits : (ty : Ty) → instance_type parts n ≡ Some ty → AreOfType table ty rails
  pub says_now : (ty : Ty) (one : Inst) (tally : Tally) → instance_type parts n ≡ Some ty → slice_get parts.instances n ≡ Some one → slice_get now n ≡ Some tally →
      (reading : Reading) (v : Valuation) → Views table parts v reading → know_in reading ty rails.now ≡ settles parts v one (verdict_in reading ty tally)
  pub says_later : (ty : Ty) (tally : Tally) → instance_type parts n ≡ Some ty → slice_get later n ≡ Some tally →
      (reading : Reading) (v : Valuation) → Views table parts v reading → later_in reading ty rails ≡ settled_later (verdict_in reading ty tally)

-- each instance does
pub record AreSettledBy (table : Table) (parts : SystemParts) (now later : List Tally) (rails : List InstanceRails) : Type 0 where
  pub long : length rails ≡ length parts.instances
  pub each : (n : ℕ) (one : InstanceRails) → slice_get rails n ≡ Some one → IsSettledBy table parts n now later one
