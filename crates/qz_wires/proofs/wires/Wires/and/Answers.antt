use Rattle.std.proofs.Common.{ap, ◌∙◌, sym, ◌&&◌, if◌then◌else◌}
use Rattle.qz_values.specs.declared.Value.{Value}
use Rattle.qz_values.specs.Values.{is_yes}
use Rattle.qz_verilog.specs.Meaning.{value_at}
use Rattle.qz_wires.proofs.Through.{through}
use Rattle.qz_wires.proofs.Choices.{and_flag, and_always}
use Rattle.qz_wires.proofs.wires.Wires.and.Goals as goal

pub returns-clause-extends : goal.returns-clause-extends
returns-clause-extends c = through c.in_ok-never.ensures.extends c.in_ok-net.ensures.extends

pub returns-then-is_constant-clause-means : goal.returns-then-is_constant-clause-means
returns-then-is_constant-clause-means c = λ nets reads.
    and_always (is_yes (value_at nets c.args.a))
    ∙ ap (λ (v : Value). is_yes (value_at nets c.args.a) && is_yes v) (sym (c.is_constant.ensures c.if-is_constant.true nets reads))

pub returns-clause-means : goal.returns-clause-means
returns-clause-means c = λ nets reads.
    ap is_yes (c.in_ok-net.ensures.means nets reads
    ∙ ap (λ (x : Value). if is_yes (value_at nets c.args.a) then value_at nets c.args.b else x)
    (c.in_ok-never.ensures.means nets (c.in_ok-net.ensures.extends.reads nets reads)))
    ∙ and_flag (is_yes (value_at nets c.args.a)) (value_at nets c.args.b)
