use Rattle.std.proofs.Common.{ap, ◌∙◌}
use Rattle.qz_values.specs.Values.{is_yes}
use Rattle.qz_verilog.specs.Meaning.{value_at}
use Rattle.qz_wires.proofs.Choices.{side_flag}
use Rattle.qz_wires.proofs.wires.Wires.select.Goals as goal

pub returns-clause-means : goal.returns-clause-means
returns-clause-means c = λ nets reads.
    ap is_yes (c.in_ok-net.ensures.means nets reads)
    ∙ side_flag (is_yes (value_at nets c.args.c)) (value_at nets c.args.a) (value_at nets c.args.b)
