use Rattle.std.proofs.Common.{◌≡◌, true, false, ◌∙◌, sym, rules, arith}
use Rattle.qz_dd.proofs.Meaning.{value-false, value-true}
use Rattle.qz_dd.proofs.table.Table.constant.Goals as goal

pub returns-then-value-clause-value : goal.returns-then-value-clause-value
returns-then-value-clause-value c = λ bits.
    let is : c.args.value ≡ true = search rules in value-true c.args.self.now.nodes.keys bits ∙ sym is

pub returns-else-value-clause-value : goal.returns-else-value-clause-value
returns-else-value-clause-value c = λ bits.
    let is : c.args.value ≡ false = search rules in value-false c.args.self.now.nodes.keys bits ∙ sym is

pub returns-then-value-clause-means : goal.returns-then-value-clause-means
returns-then-value-clause-means c = λ reading reads. reads.each 1 (omega arith) ∙ returns-then-value-clause-value c reading.bits

pub returns-else-value-clause-means : goal.returns-else-value-clause-means
returns-else-value-clause-means c = λ reading reads. reads.each 0 (omega arith) ∙ returns-else-value-clause-value c reading.bits
