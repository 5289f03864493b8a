-- A table that grows, in steps.
use Rattle.std.proofs.Common.{◌∙◌}
use Rattle.qz_wires.specs.declared.wires.Wires.{Wires}
use Rattle.qz_wires.specs.WireTable.{Extends}

pub through : {a b c : Wires} → Extends a b → Extends b c → Extends a c
through first second = record {
  same_inputs = second.same_inputs ∙ first.same_inputs;
  same_regs = second.same_regs ∙ first.same_regs;
  types = λ net ty is. second.types net ty (first.types net ty is);
  reads = λ nets reads. first.reads nets (second.reads nets reads);
}

pub through3 : {a b c d : Wires} → Extends a b → Extends b c → Extends c d → Extends a d
through3 first second third = through first (through second third)

pub through4 : {a b c d e : Wires} → Extends a b → Extends b c → Extends c d → Extends d e → Extends a e
through4 first second third fourth = through first (through3 second third fourth)
