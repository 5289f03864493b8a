use Rattle.std.proofs.Common.{◌≡◌, ◌<◌, ◌++◌, ◌-◌, length}
use Rattle.std.specs.List.{All}
use Rattle.qz_dd.specs.Tables.{Reading, Reads, count}
use Rattle.qz_rails.specs.Bits.{bits_in, digits_of}
use Rattle.qz_rails.proofs.numbers.digits.Given as goal

abbrev pub invariant-loop-i : goal.invariant-loop-i
invariant-loop-i l = record {
  below : All (λ x. x.0 < count l.diagrams) l.all.items;
  size : length l.all.items ≡ l.i;
  means : (reading : Reading) → Reads reading l.diagrams →
      bits_in reading l.all.items ++ digits_of (l.width - l.i) l.rest ≡ digits_of l.width l.number;
}
