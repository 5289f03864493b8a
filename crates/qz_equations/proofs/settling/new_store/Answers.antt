use Rattle.std.proofs.Common.{ap, ◌∙◌}
use Rattle.qz_values.specs.Values.{is_yes}
use Rattle.qz_wires.proofs.Through.{through}
use Rattle.qz_equations.proofs.settling.new_store.Goals as goal

pub returns-clause-extends : goal.returns-clause-extends
returns-clause-extends c = through c.in_ok-mark.ensures.extends c.in_ok-value.ensures.extends

pub returns-clause-means : goal.returns-clause-means
returns-clause-means c = λ nets reads. record {
  mark = ap is_yes (c.in_ok-mark.ensures.means nets (c.in_ok-value.ensures.extends.reads nets reads));
  value = c.in_ok-value.ensures.means nets reads ∙ c.zero_of.ensures;
}
