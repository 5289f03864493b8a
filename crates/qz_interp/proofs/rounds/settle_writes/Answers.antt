use Rattle.std.proofs.Common.{false, true, List, map, length, ap, ap₂, ◌∙◌}
use Rattle.qz_meaning.specs.Verdicts.{Verdict}
use Rattle.qz_react.specs.declared.environments.Write.{Write}
use Rattle.qz_interp.specs.Tallying.{tallied, cleared}
use Rattle.qz_interp.specs.Touching.{assigned, value_by, later_by}
use Rattle.qz_interp.specs.Walked.{numbered}
use Rattle.qz_interp.proofs.RoundTouchLemmas.{suits_after, settles_after, clear_after}
use Rattle.qz_interp.proofs.rounds.settle_writes.Goals as goal

pub returns-clause-suits : goal.returns-clause-suits
returns-clause-suits c =
    suits_after c.args.slots.now c.args.met.now c.args.env.now
    record { inputs = c.args.env.now.inputs; now = c.settle_values-now.new.known; later = c.settle_delayed-later.new.delayed }
    c.tally_writes.new.now c.tally_writes.new.later c.requires.suits c.settle_values-now.ensures.settled c.settle_delayed-later.ensures.settled

pub returns-clause-settled : goal.returns-clause-settled
returns-clause-settled c =
    let writes = ap (map numbered) c.deref.ensures.value in
    settles_after c.args.slots.now c.args.met.now c.args.env.now c.args.sheet.now c.args.sheet.now.writes.items c.settle_values-now.new.known.items
    c.settle_delayed-later.new.delayed.items c.requires.suits c.requires.clear
    (c.settle_values-now.ensures.settled
    ∙ ap (λ (verdicts : List Verdict). assigned (value_by c.args.slots.now verdicts) c.args.env.now.now.items c.args.met.now)
    (c.tally_writes.ensures.now ∙ ap (tallied false c.args.sheet.now.now) writes))
    (c.settle_delayed-later.ensures.settled
    ∙ ap (λ (verdicts : List Verdict). assigned (later_by c.args.slots.now verdicts) c.args.env.now.later.items c.args.met.now)
    (c.tally_writes.ensures.later ∙ ap (tallied true c.args.sheet.now.later) writes))

pub returns-clause-clear : goal.returns-clause-clear
returns-clause-clear c =
    clear_after (length c.args.slots.now) c.args.sheet.now
    record { writes = c.args.sheet.now.writes; now = c.clear_writes.new.now; later = c.clear_writes.new.later } (map numbered c.args.sheet.now.writes.items) c.requires.clear
    (c.clear_writes.ensures.now
    ∙ ap₂ (λ (verdicts : List Verdict) (writes : List Write). cleared verdicts (map numbered writes))
    (c.tally_writes.ensures.now ∙ ap (λ (writes : List Write). tallied false c.args.sheet.now.now (map numbered writes)) c.deref.ensures.value) c.deref-2.ensures.value)
    (c.clear_writes.ensures.later
    ∙ ap₂ (λ (verdicts : List Verdict) (writes : List Write). cleared verdicts (map numbered writes))
    (c.tally_writes.ensures.later ∙ ap (λ (writes : List Write). tallied true c.args.sheet.now.later (map numbered writes)) c.deref.ensures.value) c.deref-2.ensures.value)
