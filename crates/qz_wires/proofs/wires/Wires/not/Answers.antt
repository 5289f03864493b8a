use Rattle.std.proofs.Common.{ap, ap₂, ◌∙◌, if◌then◌else◌}
use Rattle.qz_values.specs.declared.Value.{Value}
use Rattle.qz_values.specs.Values.{is_yes}
use Rattle.qz_verilog.specs.Meaning.{value_at}
use Rattle.qz_wires.proofs.Through.{through3}
use Rattle.qz_wires.proofs.Choices.{not_flag}
use Rattle.qz_wires.proofs.wires.Wires.not.Goals as goal

pub returns-clause-extends : goal.returns-clause-extends
returns-clause-extends c = through3 c.in_ok-never.ensures.extends c.in_ok-always.ensures.extends c.in_ok-net.ensures.extends

pub returns-clause-means : goal.returns-clause-means
returns-clause-means c = λ nets reads.
    let second = c.in_ok-net.ensures.extends.reads nets reads in
    let first = c.in_ok-always.ensures.extends.reads nets second in
    ap is_yes (c.in_ok-net.ensures.means nets reads
    ∙ ap₂ (λ (x y : Value). if is_yes (value_at nets c.args.a) then x else y)
    (c.in_ok-never.ensures.means nets first) (c.in_ok-always.ensures.means nets second))
    ∙ not_flag (is_yes (value_at nets c.args.a))
