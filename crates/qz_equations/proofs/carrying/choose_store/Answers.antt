use Rattle.std.proofs.Common.{ap, ◌∙◌}
use Rattle.qz_values.specs.Values.{is_yes}
use Rattle.qz_verilog.specs.Meaning.{value_at}
use Rattle.qz_wires.proofs.Through.{through}
use Rattle.qz_equations.proofs.StoreLemmas.{chosen_store}
use Rattle.qz_equations.proofs.carrying.choose_store.Goals as goal

pub returns-clause-extends : goal.returns-clause-extends
returns-clause-extends c = through c.in_ok-mark.ensures.extends c.in_ok-value.ensures.extends

pub returns-clause-means : goal.returns-clause-means
returns-clause-means c = λ settled reads a b p q.
    let both = chosen_store settled (is_yes (value_at settled c.args.flag)) c.args.first c.args.second a b p q in
    record {
      mark = ap is_yes (c.in_ok-mark.ensures.means settled (c.in_ok-value.ensures.extends.reads settled reads)) ∙ both.0;
      value = c.in_ok-value.ensures.means settled reads ∙ both.1;
    }
