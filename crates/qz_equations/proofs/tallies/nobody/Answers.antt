use Rattle.std.proofs.Common.{ap}
use Rattle.qz_values.specs.Values.{is_yes}
use Rattle.qz_wires.proofs.Through.{through}
use Rattle.qz_equations.proofs.tallies.nobody.Goals as goal

pub returns-clause-extends : goal.returns-clause-extends
returns-clause-extends c = through c.in_ok-decided.ensures.extends (through c.in_ok-idle.ensures.extends c.in_ok-value.ensures.extends)

pub returns-clause-means : goal.returns-clause-means
returns-clause-means c = λ nets reads.
    let at_idle = c.in_ok-value.ensures.extends.reads nets reads in
    let at_decided = c.in_ok-idle.ensures.extends.reads nets at_idle in
    (ap is_yes (c.in_ok-decided.ensures.means nets at_decided), ap is_yes (c.in_ok-idle.ensures.means nets at_idle))
