use Rattle.std.proofs.Common.{◌≡◌, ◌<◌, ◌≢◌, ℕ, length, ap, arith, below_more, get_or-set_other, get_or-set_same, ◌∙◌}
use Rattle.std.proofs.lemmas.Option.{slice_get_within}
use Rattle.qz_values.specs.declared.Know.{Know}
use Rattle.qz_values.specs.declared.Know.TheVariants.{Unknown}
use Rattle.qz_system.proofs.SettleLemmas.{one_settled}
use Rattle.qz_system.proofs.settling.settle_values.Goals as goal

pub loop-number-preserved : goal.loop-number-preserved
loop-number-preserved c =
    below_more _ _
    (λ n h one at.
    let ne : n ≢ c.loop-number.number = omega arith in
    get_or-set_other c.loop-number.now c.loop-number.number n c.settle.result Unknown ne ∙ c.loop-number.invariant n h one at)
    (λ one at.
    let same = ap length c.as_slice-one-items.ensures in
    let within : c.loop-number.number < length c.loop-number.now = omega arith in
    let there : c.loop-number.number < length c.args.verdicts.now = omega arith in
    get_or-set_same c.loop-number.now c.loop-number.number c.settle.result Unknown within
    ∙ one_settled c.args.parts.now c.args.v.now (λ (n : ℕ). Unknown) c.loop-number.number c.as_slice-one-items.result.now c.args.verdicts.now _ one c.one-item.result c.settle.result
    at c.as_slice-one-items.ensures c.one-item.is there c.settle.ensures)

pub returns : goal.returns
returns c = λ n one at.
    let within = slice_get_within c.args.parts.now.instances n one at in
    let same = ap length c.as_slice-one-items.ensures in
    let below : n < c.loop-number.number = omega arith in
    c.loop-number.invariant n below one at
