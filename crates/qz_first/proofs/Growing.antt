-- A table that grows, in steps.
use Rattle.std.proofs.Common.{arith}
use Rattle.qz_first.specs.declared.wires.Wires.{Wires}
use Rattle.qz_first.specs.WireTable.{Extends}

pub through : (old mid new : Wires) → Extends old mid → Extends mid new → Extends old new
through old mid new first second = record {
  reads = λ nets reads. first.reads nets (second.reads nets reads);
  longer = omega arith;
}
