use Rattle.std.proofs.Common.{◌&&◌, ap, ◌∙◌}
use Rattle.qz_values.specs.Values.{is_yes}
use Rattle.qz_verilog.specs.Meaning.{value_at}
use Rattle.qz_wires.proofs.Through.{through}
use Rattle.qz_equations.proofs.tallies.is_silent.Goals as goal

pub returns-clause-extends : goal.returns-clause-extends
returns-clause-extends c = through c.in_ok-off.ensures.extends c.in_ok-net.ensures.extends

pub returns-clause-means : goal.returns-clause-means
returns-clause-means c = λ nets reads.
    let at_off = c.in_ok-net.ensures.extends.reads nets reads in
    c.in_ok-net.ensures.means nets reads ∙ ap (λ b. is_yes (value_at nets c.args.guard.known) && b) (c.in_ok-off.ensures.means nets at_off)
