use Rattle.std.proofs.Common.{refl, arith}
use Rattle.qz_values.specs.declared.Ty.TheVariants.{Bool as Truth}
use Rattle.qz_symbolic.proofs.Lists.{item_at}
use Rattle.qz_symbolic.proofs.Acting.{act_guard, act_value, act_within, act_added, added_have, tallies_grow, typed_within, same_kind}
use Rattle.qz_symbolic.proofs.acts.add_act.Goals as goal

pub with_write-requires-clause-mine : goal.with_write-requires-clause-mine
with_write-requires-clause-mine c =
    let within = act_within c.args.parts.now c.args.act c.requires.act in
    let long = c.requires.tallies.long in
    c.requires.tallies.fits c.args.act.instance c.type_of_instance-ty.result c.index.result.now c.type_of_instance-ty.ensures
    (item_at c.args.tallies.now.items c.args.tallies.now.items c.args.act.instance c.index.result.now refl (omega (arith, within, long)) c.index.ensures)

pub with_write-requires-clause-guard : goal.with_write-requires-clause-guard
with_write-requires-clause-guard c =
    let typed = act_guard c.args.parts.now c.args.act c.requires.act in
    let within = typed_within c.args.parts.now.table.nets.entries c.args.act.guard.0 Truth typed in
    let long = c.requires.nets.long in
    c.requires.nets.each c.args.act.guard.0 Truth c.index-nets-act.result typed
    (item_at c.args.nets.now c.args.nets.now c.args.act.guard.0 c.index-nets-act.result refl (omega (arith, within, long)) c.index-nets-act.is)

pub with_write-requires-clause-value : goal.with_write-requires-clause-value
with_write-requires-clause-value c =
    let typed = act_value c.args.parts.now c.args.act c.requires.act c.type_of_instance-ty.result c.type_of_instance-ty.ensures in
    let within = typed_within c.args.parts.now.table.nets.entries c.args.act.value.0 c.type_of_instance-ty.result typed in
    let long = c.requires.nets.long in
    c.requires.nets.each c.args.act.value.0 c.type_of_instance-ty.result c.index-nets-act-2.result typed
    (item_at c.args.nets.now c.args.nets.now c.args.act.value.0 c.index-nets-act-2.result refl (omega (arith, within, long)) c.index-nets-act-2.is)

pub index_mut-requires : goal.index_mut-requires
index_mut-requires c =
    let within = act_within c.args.parts.now c.args.act c.requires.act in
    let long = c.requires.tallies.long in
    let size = c.args.tallies.now.ok.0 in
    omega (arith, within, long, size)

pub returns-clause-says : goal.returns-clause-says
returns-clause-says c =
    let within = act_within c.args.parts.now c.args.act c.requires.act in
    let long = c.requires.tallies.long in
    let guard = act_guard c.args.parts.now c.args.act c.requires.act in
    let guard_within = typed_within c.args.parts.now.table.nets.entries c.args.act.guard.0 Truth guard in
    let value = act_value c.args.parts.now c.args.act c.requires.act c.type_of_instance-ty.result c.type_of_instance-ty.ensures in
    let value_within = typed_within c.args.parts.now.table.nets.entries c.args.act.value.0 c.type_of_instance-ty.result value in
    let nets = c.requires.nets.long in
    act_added c.with_write.new.diagrams c.args.parts.now c.args.nets.now c.args.delayed c.args.act c.requires.act (same_kind c.args.act.delayed c.args.delayed c.if-act-delayed.false)
    c.args.tallies.now.items c.type_of_instance-ty.result c.type_of_instance-ty.ensures (omega (arith, within, long))
    c.index.result.now c.in_ok-more.more c.index-nets-act.result c.index-nets-act-2.result
    (item_at c.args.tallies.now.items c.args.tallies.now.items c.args.act.instance c.index.result.now refl (omega (arith, within, long)) c.index.ensures)
    (item_at c.args.nets.now c.args.nets.now c.args.act.guard.0 c.index-nets-act.result refl (omega (arith, guard_within, nets)) c.index-nets-act.is)
    (item_at c.args.nets.now c.args.nets.now c.args.act.value.0 c.index-nets-act-2.result refl (omega (arith, value_within, nets)) c.index-nets-act-2.is)
    c.in_ok-more.ensures.means

pub returns-clause-have : goal.returns-clause-have
returns-clause-have c =
    let within = act_within c.args.parts.now c.args.act c.requires.act in
    let long = c.requires.tallies.long in
    added_have c.with_write.new.diagrams c.args.parts.now c.args.tallies.now.items c.args.act.instance c.type_of_instance-ty.result c.in_ok-more.more
    c.type_of_instance-ty.ensures (omega (arith, within, long))
    (tallies_grow c.args.diagrams.now c.with_write.new.diagrams c.args.parts.now c.args.tallies.now.items c.in_ok-more.ensures.extends c.requires.tallies) c.in_ok-more.ensures.tally
