use Rattle.qz_values.specs.Values.{is_yes}
use Rattle.qz_values.specs.Operators.{value2}
use Rattle.qz_verilog.specs.Meaning.{value_at}
use Rattle.qz_wires.proofs.Through.{through}
use Rattle.qz_wires.proofs.Saying.{strict_says}
use Rattle.qz_wires.proofs.OperatorTypes.{bin_typed}
use Rattle.qz_wires.proofs.operators.strict.Goals as goal

pub add-requires : goal.add-requires
add-requires c =
    bin_typed _ c.args.op c.args.ty c.args.ty c.args.given c.args.a.value c.args.b.value c.requires.sign c.requires.takes
    (c.in_ok-known.ensures.extends.types c.args.a.value _ c.requires.a.value_net) (c.in_ok-known.ensures.extends.types c.args.b.value _ c.requires.b.value_net)

pub returns-clause-extends : goal.returns-clause-extends
returns-clause-extends c = through c.in_ok-known.ensures.extends c.in_ok-value.ensures.extends

pub returns-clause-means : goal.returns-clause-means
returns-clause-means c = λ nets reads p q ha hb.
    rw (c.in_ok-known.ensures.means nets (c.in_ok-value.ensures.extends.reads nets reads), c.in_ok-value.ensures.means nets reads)
    (strict_says (value2 c.args.op) (is_yes (value_at nets c.args.a.known)) (value_at nets c.args.a.value) (is_yes (value_at nets c.args.b.known)) (value_at nets c.args.b.value) p q ha hb)
