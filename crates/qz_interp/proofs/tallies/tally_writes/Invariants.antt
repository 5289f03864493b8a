use Rattle.std.proofs.Common.{◌≡◌, false, true, map, drop}
use Rattle.qz_interp.specs.Tallying.{tallied}
use Rattle.qz_interp.specs.Walked.{numbered}
use Rattle.qz_interp.proofs.tallies.tally_writes.Given as goal

abbrev pub invariant-loop-write : goal.invariant-loop-write
invariant-loop-write l = record {
  now : tallied false l.now (map numbered (drop l.write-index l.writes)) ≡ tallied false l.initial.now (map numbered l.writes);
  later : tallied true l.later (map numbered (drop l.write-index l.writes)) ≡ tallied true l.initial.later (map numbered l.writes);
}
