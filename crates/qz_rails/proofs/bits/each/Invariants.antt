use Rattle.std.proofs.Common.{◌≡◌, ◌<◌, ◌++◌, drop, length}
use Rattle.std.specs.List.{All}
use Rattle.qz_dd.specs.Calls.{op_value}
use Rattle.qz_dd.specs.Tables.{Reading, Reads, Extends, count}
use Rattle.qz_rails.specs.Bits.{bits_in, pairwise}
use Rattle.qz_rails.proofs.bits.each.Given as goal

abbrev pub invariant-loop-i : goal.invariant-loop-i
invariant-loop-i l = record {
  extends : Extends l.fn.diagrams l.diagrams;
  below : All (λ x. x.0 < count l.diagrams) l.all.items;
  size : length l.all.items ≡ l.i;
  means : (reading : Reading) → Reads reading l.diagrams →
      bits_in reading l.all.items ++ pairwise (op_value l.op) (bits_in reading (drop l.i l.xs)) (bits_in reading (drop l.i l.ys)) ≡
      pairwise (op_value l.op) (bits_in reading l.xs) (bits_in reading l.ys);
}
