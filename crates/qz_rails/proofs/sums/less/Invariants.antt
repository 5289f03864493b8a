use Rattle.std.proofs.Common.{◌≡◌, ◌<◌, drop}
use Rattle.qz_dd.specs.Tables.{Reading, Reads, Extends, count}
use Rattle.qz_rails.specs.Bits.{bits_in}
use Rattle.qz_rails.specs.Sums.{less_from}
use Rattle.qz_rails.proofs.sums.less.Given as goal

abbrev pub invariant-loop-i : goal.invariant-loop-i
invariant-loop-i l = record {
  extends : Extends l.fn.diagrams l.diagrams;
  below : l.less.0 < count l.diagrams;
  means : (reading : Reading) → Reads reading l.diagrams →
      less_from (reading.values l.less.0) (bits_in reading (drop l.i l.xs)) (bits_in reading (drop l.i l.ys)) ≡
      less_from l.fn.or_equal (bits_in reading l.xs) (bits_in reading l.ys);
}
