use Rattle.std.proofs.Common.{ap}
use Rattle.qz_values.specs.Values.{is_yes}
use Rattle.qz_verilog.specs.Meaning.{value_at}
use Rattle.qz_wires.proofs.Through.{through, through4}
use Rattle.qz_wires.proofs.Saying.{imp_says}
use Rattle.qz_wires.proofs.bools.implies.Goals as goal

pub returns-clause-extends : goal.returns-clause-extends
returns-clause-extends c =
    through4 c.in_ok-right.ensures.extends c.in_ok-always.ensures.extends c.in_ok-left.ensures.extends
    (through c.in_ok-known.ensures.extends c.in_ok-value.ensures.extends)

pub returns-clause-means : goal.returns-clause-means
returns-clause-means c = λ nets reads p q tp tq ha hb.
    let at_known = c.in_ok-value.ensures.extends.reads nets reads in
    let at_left = c.in_ok-known.ensures.extends.reads nets at_known in
    let at_always = c.in_ok-left.ensures.extends.reads nets at_left in
    let at_right = c.in_ok-always.ensures.extends.reads nets at_always in
    rw (
      c.in_ok-known.ensures.means nets at_known,
      c.in_ok-left.ensures.means nets at_left,
      ap is_yes (c.in_ok-always.ensures.means nets at_always),
      c.in_ok-right.ensures.means nets at_right,
      c.in_ok-value.ensures.means nets reads,
      c.in_ok-always.ensures.means nets at_always,
    )
    (imp_says (is_yes (value_at nets c.args.a.known)) (value_at nets c.args.a.value) (is_yes (value_at nets c.args.b.known)) (value_at nets c.args.b.value) p q tp tq ha hb)
