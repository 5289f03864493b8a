use Rattle.std.proofs.Common.{sym, subst, ap, ◌∙◌, unwrap_or}
use Rattle.qz_values.specs.Knowledge.{either}
use Rattle.qz_nets.specs.declared.net.NetId.{NetId}
use Rattle.qz_control.specs.Circuits.{known, IsBool}
use Rattle.qz_local.proofs.Adding.{bool_before, bools_added, added, bools_grow}
use Rattle.qz_local.proofs.nexts.Nexts.add.Goals as goal

pub or-requires-clause-left : goal.or-requires-clause-left
or-requires-clause-left c =
    subst (IsBool c.args.circuit.now) (sym c.unwrap_or-before.ensures)
    (bool_before c.args.circuit.now c.args.never c.net.result c.requires.never (λ id h. c.requires.bools.each c.args.spot.rest id (sym c.net.ensures ∙ h)))

pub returns-clause-bools : goal.returns-clause-bools
returns-clause-bools c =
    bools_added c.args.self.now (record { nets = c.insert.new.self }) c.args.spot.rest c.in_ok-when.when c.in_ok-insert.ensures.updates c.or.new.self
    (bools_grow c.args.circuit.now c.or.new.self c.args.self.now c.in_ok-when.ensures.grows c.requires.bools) c.in_ok-when.ensures.ty

pub returns-clause-joins : goal.returns-clause-joins
returns-clause-joins c = λ v views one.
    let before = c.in_ok-when.ensures.grows.views v views in
    added c.args.self.now (record { nets = c.insert.new.self }) c.args.spot.rest c.in_ok-when.when c.in_ok-insert.ensures.updates v c.args.never c.args.spot.when
    (c.requires.no v before)
    (c.in_ok-when.ensures.means v views
    ∙ ap (λ (k : NetId). either (known v k) (known v c.args.spot.when)) (c.unwrap_or-before.ensures ∙ ap (λ o. unwrap_or o c.args.never) c.net.ensures))
    one
