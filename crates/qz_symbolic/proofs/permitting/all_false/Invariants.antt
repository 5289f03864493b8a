use Rattle.std.proofs.Common.{◌≡◌, ◌<◌, not, drop}
use Rattle.std.specs.Prelude.{◌&&◌}
use Rattle.std.specs.List.{list_all}
use Rattle.qz_dd.specs.Tables.{Reading, Reads, Extends, count}
use Rattle.qz_rails.specs.Bits.{bits_in}
use Rattle.qz_symbolic.proofs.permitting.all_false.Given as goal

abbrev pub invariant-loop-number : goal.invariant-loop-number
invariant-loop-number l = record {
  extends : Extends l.fn.diagrams l.diagrams;
  below : l.so_far.0 < count l.diagrams;
  means : (reading : Reading) → Reads reading l.diagrams →
      reading.values l.so_far.0 && list_all not (bits_in reading (drop l.number-index l.numbers)) ≡ list_all not (bits_in reading l.numbers);
}
