use Rattle.std.proofs.Common.{◌≡◌, map, drop}
use Rattle.qz_interp.specs.Tallying.{cleared}
use Rattle.qz_interp.specs.Walked.{numbered}
use Rattle.qz_interp.proofs.tallies.clear_writes.Given as goal

abbrev pub invariant-loop-write : goal.invariant-loop-write
invariant-loop-write l = record {
  now : cleared l.now (map numbered (drop l.write-index l.writes)) ≡ cleared l.initial.now (map numbered l.writes);
  later : cleared l.later (map numbered (drop l.write-index l.writes)) ≡ cleared l.initial.later (map numbered l.writes);
}
