-- None of the bytes so far is the mark.
use Rattle.std.proofs.Common.{◌≡◌, true, take}
use Rattle.qz_vread.specs.Parts.{lacks}
use Rattle.qz_vread.proofs.bytes.split_at.Given as goal

abbrev pub invariant-loop-at : goal.invariant-loop-at
invariant-loop-at l = lacks l.mark (take l.at l.bytes) ≡ true
