use Rattle.std.proofs.Common.{◌||◌, refl, ap, ◌∙◌, arith, length}
use Rattle.std.proofs.lemmas.Option.{slice_get_read}
use Rattle.qz_values.specs.declared.Ty.TheVariants.{Bool as Truth}
use Rattle.qz_values.specs.Values.{is_yes}
use Rattle.qz_values.specs.Knowledge.{knows_yes}
use Rattle.qz_verilog.specs.Meaning.{value_at}
use Rattle.qz_wires.specs.WireTable.{types_in}
use Rattle.qz_equations.proofs.NetLemmas.{net_within}
use Rattle.qz_equations.proofs.Keeping.{flags_kept}
use Rattle.qz_equations.proofs.FlagLemmas.{flag_known, next_within, next_net, flags_written, one_flag_more}
use Rattle.qz_equations.proofs.resting.add_next.Goals as goal

pub or-requires-clause-right : goal.or-requires-clause-right
or-requires-clause-right c =
    let is = next_net c.args.parts.now c.args.entry c.requires.entry in
    let within = net_within c.args.parts.now.table c.args.entry.1.0 Truth is in
    let nets = c.args.last.now.nets.items in
    (c.requires.last.nets.each c.args.entry.1.0 Truth c.index.result.now is
    (slice_get_read nets (length nets) c.args.entry.1.0 c.index.result.now refl (let e = c.requires.last.net_count in omega (arith, within)) c.index.ensures)).value_net

pub returns-clause-typed : goal.returns-clause-typed
returns-clause-typed c =
    flags_written (types_in c.or.new.self) c.args.flags.now.items c.args.entry.0 c.in_ok-flag.flag (flags_kept c.in_ok-flag.ensures.extends c.requires.flags)
    c.in_ok-flag.ensures.typed

pub returns-clause-means : goal.returns-clause-means
returns-clause-means c = λ settled reads knows laters know ends bits shown.
    let is = next_net c.args.parts.now c.args.entry c.requires.entry in
    let within = net_within c.args.parts.now.table c.args.entry.1.0 Truth is in
    let nets = c.args.last.now.nets.items in
    let flags = c.args.flags.now.items in
    let rail = ends.nets c.args.entry.1.0 c.index.result.now
    (slice_get_read nets (length nets) c.args.entry.1.0 c.index.result.now refl (let e = c.requires.last.net_count in omega (arith, within)) c.index.ensures) in
    let place = next_within c.args.parts.now c.args.entry c.requires.entry in
    let old = shown c.args.entry.0 c.index-2.result.now
    (slice_get_read flags (length flags) c.args.entry.0 c.index-2.result.now refl (let e = c.requires.size in omega (arith, place)) c.index-2.ensures) in
    let holds = flag_known (is_yes (value_at settled c.index.result.now.known)) (value_at settled c.index.result.now.value) (know c.args.entry.1.0) rail
    (ends.plain c.args.entry.1.0 Truth is) in
    one_flag_more settled flags bits c.args.entry.0 (knows_yes (know c.args.entry.1.0)) c.in_ok-flag.flag shown
    (c.in_ok-flag.ensures.means settled reads ∙ ap (λ b. b || is_yes (value_at settled c.index.result.now.value)) old ∙ ap (λ b. bits c.args.entry.0 || b) holds)
