use Rattle.std.proofs.Common.{◌≡◌, ◌<◌, ◌++◌, drop, length}
use Rattle.std.specs.List.{All}
use Rattle.qz_dd.specs.Tables.{Reading, Reads, Extends, count}
use Rattle.qz_rails.specs.Bits.{bits_in}
use Rattle.qz_rails.specs.Bits.{choices}
use Rattle.qz_rails.proofs.bits.chosen.Given as goal

abbrev pub invariant-loop-i : goal.invariant-loop-i
invariant-loop-i l = record {
  extends : Extends l.fn.diagrams l.diagrams;
  below : All (λ x. x.0 < count l.diagrams) l.all.items;
  size : length l.all.items ≡ l.i;
  means : (reading : Reading) → Reads reading l.diagrams →
      bits_in reading l.all.items ++ choices (reading.values l.fn.c.0) (bits_in reading (drop l.i l.xs)) (bits_in reading (drop l.i l.ys)) ≡
      choices (reading.values l.fn.c.0) (bits_in reading l.xs) (bits_in reading l.ys);
}
