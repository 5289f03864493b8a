use Rattle.std.proofs.Common.{◌≡◌, drop}
use Rattle.qz_nets.specs.Readings.{listed}
use Rattle.qz_system.specs.Writers.{with_acts}
use Rattle.qz_system.proofs.writers.add_acts.Given as goal

abbrev pub invariant-loop-act : goal.invariant-loop-act
invariant-loop-act l =
    with_acts (listed l.values) l.delayed l.verdicts (drop l.act-index l.acts) ≡ with_acts (listed l.values) l.delayed l.initial.verdicts l.acts
