use Rattle.qz_values.specs.Values.{is_yes}
use Rattle.qz_verilog.specs.Meaning.{value_at}
use Rattle.qz_equations.proofs.VerdictLemmas.{joined_says}
use Rattle.qz_wires.proofs.Through.{through}
use Rattle.qz_equations.proofs.tallies.one_more.Goals as goal

pub returns-clause-extends : goal.returns-clause-extends
returns-clause-extends c = through c.in_ok-on.ensures.extends (through c.in_ok-off.ensures.extends (through c.in_ok-decided.ensures.extends (through c.in_ok-chosen.ensures.extends c.in_ok-idle.ensures.extends)))

pub returns-clause-means : goal.returns-clause-means
returns-clause-means c = λ nets reads k p q hk hp hq.
    let at_chosen = c.in_ok-idle.ensures.extends.reads nets reads in
    let at_decided = c.in_ok-chosen.ensures.extends.reads nets at_chosen in
    let at_off = c.in_ok-decided.ensures.extends.reads nets at_decided in
    let at_on = c.in_ok-off.ensures.extends.reads nets at_off in
    rw (
      c.in_ok-decided.ensures.means nets at_decided,
      c.in_ok-chosen.ensures.means nets at_chosen,
      c.in_ok-idle.ensures.means nets reads,
      c.in_ok-on.ensures.means nets at_on,
      c.in_ok-off.ensures.means nets at_off,
    )
    (joined_says (is_yes (value_at nets c.args.so_far.decided)) (value_at nets c.args.so_far.value) (is_yes (value_at nets c.args.so_far.idle))
    (is_yes (value_at nets c.args.guard.known)) (value_at nets c.args.guard.value)
    (is_yes (value_at nets c.args.value.known)) (value_at nets c.args.value.value) k p q hk hp hq)
