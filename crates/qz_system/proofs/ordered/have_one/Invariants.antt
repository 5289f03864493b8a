use Rattle.std.proofs.Common.{◌≡◌, drop}
use Rattle.qz_system.specs.Parts.{have_one}
use Rattle.qz_system.proofs.ordered.have_one.Given as goal

abbrev pub invariant-loop-cell : goal.invariant-loop-cell
invariant-loop-cell l = have_one (drop l.cell l.outputs) l.cell l.instances ≡ have_one l.outputs 0 l.instances
