use Rattle.std.proofs.Common.{◌≡◌, ◌<◌, ◌++◌, drop, length}
use Rattle.std.specs.List.{All}
use Rattle.qz_dd.specs.Tables.{Reading, Reads, Extends, count}
use Rattle.qz_rails.specs.Bits.{bits_in}
use Rattle.qz_rails.specs.Sums.{sums_from}
use Rattle.qz_rails.proofs.sums.sum.Given as goal

abbrev pub invariant-loop-i : goal.invariant-loop-i
invariant-loop-i l = record {
  extends : Extends l.fn.diagrams l.diagrams;
  below : All (λ x. x.0 < count l.diagrams) l.sums.items;
  size : length l.sums.items ≡ l.i;
  carry : l.carry.0 < count l.diagrams;
  means : (reading : Reading) → Reads reading l.diagrams →
      bits_in reading l.sums.items ++ sums_from (reading.values l.carry.0) (bits_in reading (drop l.i l.xs)) (bits_in reading (drop l.i l.ys)) ≡
      sums_from l.fn.carried (bits_in reading l.xs) (bits_in reading l.ys);
}
