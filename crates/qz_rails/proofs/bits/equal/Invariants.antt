use Rattle.std.proofs.Common.{◌≡◌, ◌<◌, true, drop}
use Rattle.qz_dd.specs.Tables.{Reading, Reads, Extends, count}
use Rattle.qz_rails.specs.Bits.{bits_in, same_from}
use Rattle.qz_rails.proofs.bits.equal.Given as goal

abbrev pub invariant-loop-i : goal.invariant-loop-i
invariant-loop-i l = record {
  extends : Extends l.fn.diagrams l.diagrams;
  below : l.same.0 < count l.diagrams;
  means : (reading : Reading) → Reads reading l.diagrams →
      same_from (reading.values l.same.0) (bits_in reading (drop l.i l.xs)) (bits_in reading (drop l.i l.ys)) ≡
      same_from true (bits_in reading l.xs) (bits_in reading l.ys);
}
