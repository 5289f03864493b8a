use Rattle.std.proofs.Common.{◌≡◌, ℕ, Some, drop}
use Rattle.std.specs.Prelude.{slice_get}
use Rattle.qz_dd.specs.Tables.{Reading, Reads, Extends}
use Rattle.qz_values.specs.declared.Ty.{Ty}
use Rattle.qz_values.specs.declared.Know.{Know}
use Rattle.qz_tallies.specs.declared.tally.Tally.{Tally}
use Rattle.qz_tallies.specs.Tallies.{verdict_in}
use Rattle.qz_system.specs.Parts.{instance_type}
use Rattle.qz_system.specs.Writers.{tally_of, verdict_of}
use Rattle.qz_symbolic.specs.Knowing.{AreKnown, HaveTallies}
use Rattle.qz_symbolic.proofs.acts.tallies_of.Given as goal

abbrev pub invariant-loop-act : goal.invariant-loop-act
invariant-loop-act l = record {
  extends : Extends l.fn.diagrams l.diagrams;
  have : HaveTallies l.diagrams l.parts l.tallies.items;
  says : (n : ℕ) (ty : Ty) (tally : Tally) → instance_type l.parts n ≡ Some ty → slice_get l.tallies.items n ≡ Some tally →
      (reading : Reading) → Reads reading l.diagrams → (know : ℕ → Know) → AreKnown l.parts reading l.nets know →
      tally_of know n l.delayed (verdict_in reading ty tally) (drop l.act-index l.parts.acts) ≡ verdict_of know n l.delayed l.parts.acts;
}
