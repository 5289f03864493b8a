use Rattle.std.proofs.Common.{false, true, List, length, ap, ◌∙◌}
use Rattle.std.specs.Prelude.{replicate}
use Rattle.qz_nets.specs.Readings.{listed}
use Rattle.qz_syntax.specs.declared.places.Later.TheVariants as later
use Rattle.qz_system.specs.declared.parts.Act.{Act}
use Rattle.qz_system.specs.Writers.{with_acts}
use Rattle.qz_system.proofs.SettleLemmas.{settled_by}
use Rattle.qz_system.proofs.rounds.settle_by.Goals as goal

pub returns : goal.returns
returns c =
    settled_by c.args.parts.now c.args.v.now (listed c.args.values.now) c.settle_values.new.now c.tally.new.verdicts c.tally-2.new.verdicts
    (length c.args.later.now) (length c.tally.new.verdicts)
    (c.settle_values.auto.now ∙ c.requires.now) c.requires.later (c.tally.auto.verdicts ∙ c.requires.later)
    (c.tally.ensures ∙ ap (λ (acts : List Act). with_acts (listed c.args.values.now) false (replicate (length c.args.later.now) later.Absent) acts) c.as_slice-acts.ensures)
    c.settle_values.ensures
    (c.tally-2.ensures
    ∙ ap (λ (acts : List Act). with_acts (listed c.args.values.now) true (replicate (length c.tally.new.verdicts) later.Absent) acts) c.as_slice-acts.ensures)
