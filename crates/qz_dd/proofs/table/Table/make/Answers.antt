use Rattle.std.proofs.Common.{refl, nat_eq, rules, ◌≡◌, ◌∙◌, ap, sym, true, false, arith, slice_get, Some}
use Rattle.std.proofs.lemmas.Bool.{eq-eqb}
use Rattle.qz_dd.specs.declared.node.Node.{Node}
use Rattle.qz_dd.specs.contracts.node.NodePartialEq.TheImpl.{eq-value}
use Rattle.qz_dd.specs.contracts.node.NodeEq.TheImpl.Laws.{laws-law}
use Rattle.qz_dd.proofs.SameNodes.{same_node}
use Rattle.qz_dd.proofs.Growing.{Fits, inserted, stay, made}
use Rattle.qz_dd.proofs.table.Table.make.Goals as goal

pub invariant_of-self-2 : goal.invariant_of-self-2
invariant_of-self-2 c =
    let n : Node = record { var = c.args.var; low = c.args.low; high = c.args.high } in
    let fits : Fits c.args.self.now.vars c.args.self.now.nodes.keys n = record {
      variable = c.requires.variable;
      low_below = c.requires.low_below;
      high_below = c.requires.high_below;
      low_later = c.requires.low_later;
      high_later = c.requires.high_later;
      reduced = λ e. let t : nat_eq c.args.low.0 c.args.high.0 ≡ true = eq-eqb c.args.low.0 c.args.high.0 e in let f : nat_eq c.args.low.0 c.args.high.0 ≡ false = search rules in cc;
    } in
    record {
      diagrams = inserted (eq-value).it laws-law.refl c.args.self.now.vars c.args.self.now.nodes.keys n c.args.self.now.diagrams fits
          c.insert_full.new.self.keys c.in_ok-number.ensures.keys;
    }

pub returns-clause-extends : goal.returns-clause-extends
returns-clause-extends c =
    let n : Node = record { var = c.args.var; low = c.args.low; high = c.args.high } in
    let s = stay (eq-value).it c.args.self.now.vars c.args.self.now.nodes.keys n c.insert_full.new.self.keys c.in_ok-number.ensures.keys in
    record {
      vars = refl;
      longer = omega (arith, s.longer);
      values = s.values;
      levels = s.levels;
      reads = λ reading reads. record { each = λ d below. reads.each d (omega (arith, s.longer, below)) ∙ s.values d below reading.bits };
    }

pub returns-clause-made : goal.returns-clause-made
returns-clause-made c =
    let n : Node = record { var = c.args.var; low = c.args.low; high = c.args.high } in
    let keys = c.insert_full.new.self.keys in
    let stored = c.in_ok-number.ensures.stored in
    let at : slice_get keys c.in_ok-number.number ≡ Some n = stored.1 ∙ ap Some (sym (same_node n stored.0 stored.2)) in
    let m = made c.args.self.now.vars keys (search rules) n c.in_ok-number.number at in
    record { below = m.below; later = omega (arith, m.level_is); value = m.value_is }
