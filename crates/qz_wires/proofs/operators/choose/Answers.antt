use Rattle.qz_values.specs.Values.{is_yes}
use Rattle.qz_verilog.specs.Meaning.{value_at}
use Rattle.qz_wires.proofs.Through.{through3}
use Rattle.qz_wires.proofs.Saying.{choose_says}
use Rattle.qz_wires.proofs.operators.choose.Goals as goal

pub returns-clause-extends : goal.returns-clause-extends
returns-clause-extends c = through3 c.in_ok-side.ensures.extends c.in_ok-known.ensures.extends c.in_ok-value.ensures.extends

pub returns-clause-means : goal.returns-clause-means
returns-clause-means c = λ nets reads s p q hc ha hb.
    let at_known = c.in_ok-value.ensures.extends.reads nets reads in
    let at_side = c.in_ok-known.ensures.extends.reads nets at_known in
    rw (c.in_ok-known.ensures.means nets at_known, c.in_ok-side.ensures.means nets at_side, c.in_ok-value.ensures.means nets reads)
    (choose_says (is_yes (value_at nets c.args.c.known)) (value_at nets c.args.c.value) (is_yes (value_at nets c.args.a.known)) (value_at nets c.args.a.value) (is_yes (value_at nets c.args.b.known)) (value_at nets c.args.b.value) s p q hc ha hb)
