use Rattle.qz_nets.specs.Readings.{listed}
use Rattle.qz_system.proofs.Reading.{reading_typed}
use Rattle.qz_system.specs.Rounds.{leaves_known}
use Rattle.qz_system.proofs.RoundLemmas.{leaves_fit, settled_typed}
use Rattle.qz_system.proofs.rounds.round.Goals as goal

pub eval_into-requires-clause-leaves : goal.eval_into-requires-clause-leaves
eval_into-requires-clause-leaves c =
    rw c.tell_leaves.ensures (leaves_fit c.args.parts.now c.args.v.now c.requires.parts c.requires.fits c.args.now.now c.requires.typed)

pub returns-clause-typed : goal.returns-clause-typed
returns-clause-typed c =
    settled_typed c.args.parts.now c.args.v.now c.requires.parts c.requires.fits (listed c.eval_into.new.values)
    (reading_typed c.args.parts.now.table.nets.entries c.args.parts.now.table.sound (listed c.tell_leaves.new.leaves) (listed c.eval_into.new.values)
    c.eval_into.ensures.reads.leaves c.eval_into.ensures.reads.nets)
    c.settle_by.new.now c.settle_by.new.later c.settle_by.ensures
