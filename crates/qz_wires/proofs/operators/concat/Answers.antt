use Rattle.qz_values.specs.Values.{is_yes}
use Rattle.qz_values.specs.Operators.{value_concat}
use Rattle.qz_verilog.specs.Meaning.{value_at}
use Rattle.qz_wires.proofs.Through.{through}
use Rattle.qz_wires.proofs.Saying.{strict_says}
use Rattle.qz_wires.proofs.operators.concat.Goals as goal

pub returns-clause-extends : goal.returns-clause-extends
returns-clause-extends c = through c.in_ok-value.ensures.extends c.in_ok-known.ensures.extends

pub returns-clause-means : goal.returns-clause-means
returns-clause-means c = λ nets reads p q ha hb.
    rw (c.in_ok-known.ensures.means nets reads, c.in_ok-value.ensures.means nets (c.in_ok-known.ensures.extends.reads nets reads))
    (strict_says value_concat (is_yes (value_at nets c.args.a.known)) (value_at nets c.args.a.value) (is_yes (value_at nets c.args.b.known)) (value_at nets c.args.b.value) p q ha hb)
