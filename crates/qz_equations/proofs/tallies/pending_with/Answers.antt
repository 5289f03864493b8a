use Rattle.qz_values.specs.Values.{is_yes}
use Rattle.qz_verilog.specs.Meaning.{value_at}
use Rattle.qz_equations.proofs.VerdictLemmas.{pending_says}
use Rattle.qz_wires.proofs.Through.{through}
use Rattle.qz_equations.proofs.tallies.pending_with.Goals as goal

pub returns-clause-extends : goal.returns-clause-extends
returns-clause-extends c = through c.in_ok-free.ensures.extends (through c.in_ok-decided.ensures.extends (through c.in_ok-value.ensures.extends c.in_ok-idle.ensures.extends))

pub returns-clause-means : goal.returns-clause-means
returns-clause-means c = λ nets reads held k shown h.
    let at_value = c.in_ok-idle.ensures.extends.reads nets reads in
    let at_decided = c.in_ok-value.ensures.extends.reads nets at_value in
    let at_free = c.in_ok-decided.ensures.extends.reads nets at_decided in
    rw (
      c.in_ok-decided.ensures.means nets at_decided,
      c.in_ok-value.ensures.means nets at_value,
      c.in_ok-idle.ensures.means nets reads,
      c.in_ok-free.ensures.means nets at_free,
    )
    (pending_says held (is_yes (value_at nets c.args.store.mark)) (is_yes (value_at nets c.args.writers.decided))
    (value_at nets c.args.store.value) (value_at nets c.args.writers.value) (is_yes (value_at nets c.args.writers.idle)) k
    shown.mark shown.value h)
