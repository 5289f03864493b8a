use Rattle.std.proofs.Common.{◌≡◌, map, drop, true, false}
use Rattle.qz_dd.specs.Tables.{Reading, Reads, Extends}
use Rattle.qz_system.specs.Restings.{resting, resting_of, in_one, in_some}
use Rattle.qz_symbolic.specs.Placings.{value_at, IsPlacing, resting_at}
use Rattle.qz_symbolic.proofs.resting.+rests.Given as goal

abbrev pub invariant-resting_in_one-loop-part : goal.invariant-resting_in_one-loop-part
invariant-resting_in_one-loop-part l = record {
  extends : Extends l.fn.diagrams l.diagrams;
  placing : IsPlacing l.diagrams l.so_far;
  means : (reading : Reading) → Reads reading l.diagrams →
      in_one (resting_at reading l.so_far) (map (resting_of (value_at reading l.places)) (drop l.part-index l.parts)) ≡
      in_one (resting true false) (map (resting_of (value_at reading l.places)) l.parts);
}

abbrev pub invariant-resting_in_some-loop-part : goal.invariant-resting_in_some-loop-part
invariant-resting_in_some-loop-part l = record {
  extends : Extends l.fn.diagrams l.diagrams;
  placing : IsPlacing l.diagrams l.so_far;
  means : (reading : Reading) → Reads reading l.diagrams →
      in_some (resting_at reading l.so_far) (map (resting_of (value_at reading l.places)) (drop l.part-index l.parts)) ≡
      in_some (resting true false) (map (resting_of (value_at reading l.places)) l.parts);
}
