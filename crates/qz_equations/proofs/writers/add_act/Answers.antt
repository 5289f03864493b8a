use Rattle.std.proofs.Common.{◌≡◌, Some, refl, ap, sym, subst, ◌∙◌, arith, length}
use Rattle.std.proofs.lemmas.Grind.{common_steps}
use Rattle.std.proofs.lemmas.Option.{slice_get-get_or, slice_get_read, same_Some}
use Rattle.qz_values.specs.declared.Ty.TheVariants.{Bool as Truth}
use Rattle.qz_values.specs.declared.Ty.{Ty}
use Rattle.qz_nets.specs.Readings.{type_in}
use Rattle.qz_system.proofs.TypingLemmas.{instance_within}
use Rattle.qz_wires.specs.WireTable.{types_in}
use Rattle.qz_equations.specs.Tallies.{IsTally}
use Rattle.qz_equations.proofs.Keeping.{tallies_kept}
use Rattle.qz_equations.proofs.NetLemmas.{net_within}
use Rattle.qz_equations.proofs.ActLemmas.{guard_is, value_is, one_counted, tallies_written}
use Rattle.qz_equations.proofs.writers.add_act.Goals as goal

pub one_more-requires-clause-so_far : goal.one_more-requires-clause-so_far
one_more-requires-clause-so_far c =
    let within = instance_within c.args.parts.now c.args.act.instance c.type_of-ty.result c.type_of-ty.ensures in
    let old = c.args.tallies.now.items in
    c.requires.tallies.each c.args.act.instance c.type_of-ty.result c.index.result.now c.type_of-ty.ensures
    (slice_get_read old (length old) c.args.act.instance c.index.result.now refl (let e = c.requires.tallies.count in omega (arith, within)) c.index.ensures)

pub one_more-requires-clause-guard : goal.one_more-requires-clause-guard
one_more-requires-clause-guard c =
    let is = guard_is c.args.parts.now c.args.act c.requires.act in
    let within = net_within c.args.parts.now.table c.args.act.guard.0 Truth is in
    c.requires.nets.each c.args.act.guard.0 Truth _ is (slice_get-get_or c.args.nets.now c.args.act.guard.0 _ (let e = c.requires.size in omega (arith, within)))

pub one_more-requires-clause-value : goal.one_more-requires-clause-value
one_more-requires-clause-value c =
    let value = value_is c.args.parts.now c.args.act c.requires.act in
    let same : value.0 ≡ c.type_of-ty.result = same_Some value.0 c.type_of-ty.result (sym value.1 ∙ c.type_of-ty.ensures) in
    let is : type_in c.args.parts.now.table c.args.act.value.0 ≡ Some c.type_of-ty.result = value.2 ∙ ap (λ (t : Ty). Some t) same in
    let within = net_within c.args.parts.now.table c.args.act.value.0 c.type_of-ty.result is in
    c.requires.nets.each c.args.act.value.0 c.type_of-ty.result _ is (slice_get-get_or c.args.nets.now c.args.act.value.0 _ (let e = c.requires.size in omega (arith, within)))

pub returns-clause-tallies : goal.returns-clause-tallies
returns-clause-tallies c =
    tallies_written (types_in c.one_more.new.wires) c.args.parts.now c.args.tallies.now.items c.args.act.instance c.in_ok-tally.tally
    (tallies_kept c.in_ok-tally.ensures.extends c.requires.tallies)
    (λ ty is. subst (λ t. IsTally (types_in c.one_more.new.wires) t c.in_ok-tally.tally)
    (same_Some c.type_of-ty.result ty (sym c.type_of-ty.ensures ∙ is)) c.in_ok-tally.ensures.typed)

pub returns-clause-means : goal.returns-clause-means
returns-clause-means c = λ settled reads know nets verdicts shown.
    let act = c.args.act in
    let same : act.delayed ≡ c.args.delayed = grind (arith, common_steps) in
    let old = c.args.tallies.now.items in
    let guard = guard_is c.args.parts.now act c.requires.act in
    let guard_in = net_within c.args.parts.now.table act.guard.0 Truth guard in
    let value = value_is c.args.parts.now act c.requires.act in
    let value_in = net_within c.args.parts.now.table act.value.0 value.0 value.2 in
    let within = instance_within c.args.parts.now act.instance c.type_of-ty.result c.type_of-ty.ensures in
    let there = slice_get_read old (length old) act.instance c.index.result.now refl (let e = c.requires.tallies.count in omega (arith, within)) c.index.ensures in
    one_counted settled old know c.args.delayed act verdicts shown same c.in_ok-tally.tally
    (c.in_ok-tally.ensures.means settled reads (verdicts act.instance) (know act.guard.0) (know act.value.0)
    (shown act.instance c.index.result.now there)
    (nets act.guard.0 _ (slice_get-get_or c.args.nets.now act.guard.0 _ (let e = c.requires.size in omega (arith, guard_in))))
    (nets act.value.0 _ (slice_get-get_or c.args.nets.now act.value.0 _ (let e = c.requires.size in omega (arith, value_in)))))
