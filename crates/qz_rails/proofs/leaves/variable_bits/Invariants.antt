use Rattle.std.proofs.Common.{◌≡◌, ◌<◌, ◌++◌, drop, length}
use Rattle.std.specs.List.{All}
use Rattle.qz_dd.specs.Tables.{Reading, Reads, Extends, count}
use Rattle.qz_rails.specs.Bits.{bits_in, variables_in}
use Rattle.qz_rails.proofs.leaves.variable_bits.Given as goal

abbrev pub invariant-loop-v : goal.invariant-loop-v
invariant-loop-v l = record {
  extends : Extends l.fn.diagrams l.diagrams;
  below : All (λ x. x.0 < count l.diagrams) l.all.items;
  size : length l.all.items ≡ l.v-index;
  means : (reading : Reading) → Reads reading l.diagrams →
      bits_in reading l.all.items ++ variables_in reading (drop l.v-index l.variables) ≡ variables_in reading l.variables;
}
