use Rattle.qz_values.specs.Values.{is_yes}
use Rattle.qz_verilog.specs.Meaning.{value_at}
use Rattle.qz_equations.proofs.VerdictLemmas.{settled_says}
use Rattle.qz_wires.proofs.Through.{through}
use Rattle.qz_equations.proofs.tallies.settled.Goals as goal

pub returns-clause-extends : goal.returns-clause-extends
returns-clause-extends c = through c.in_ok-known.ensures.extends c.in_ok-value.ensures.extends

pub returns-clause-means : goal.returns-clause-means
returns-clause-means c = λ nets reads class held k is h.
    let at_known = c.in_ok-value.ensures.extends.reads nets reads in
    rw (c.in_ok-known.ensures.means nets at_known, c.in_ok-value.ensures.means nets reads)
    (settled_says class c.args.ty held (is_yes (value_at nets c.args.tally.decided)) (value_at nets c.args.tally.value)
    (is_yes (value_at nets c.args.tally.idle)) (value_at nets c.args.otherwise) k is h)
