use Rattle.qz_values.specs.declared.Ty.TheVariants.{Bool}
use Rattle.qz_run.proofs.FormalLemmas.{value_fits, values_more}
use Rattle.qz_run.proofs.rows.take_numbers.Goals as goal

pub value_with-requires : goal.value_with-requires
value_with-requires c = value_fits c.args.types.now c.args.numbers.now c.loop-at.at Bool c.requires.types c.requires.row c.loop-at-test.true

pub loop-at-preserved : goal.loop-at-preserved
loop-at-preserved c =
    values_more c.args.types.now c.args.numbers.now c.loop-at.at Bool c.loop-at.values.items c.push.new.self.items c.value_with.result c.requires.row c.loop-at-test.true
    c.in_ok-push.ensures.items c.value_with.ensures c.loop-at.invariant
