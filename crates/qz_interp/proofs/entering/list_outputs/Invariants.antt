use Rattle.std.proofs.Common.{◌≡◌, ◌++◌, drop}
use Rattle.qz_interp.specs.Entering.{outputs_met}
use Rattle.qz_interp.proofs.entering.list_outputs.Given as goal

abbrev pub invariant-loop-number : goal.invariant-loop-number
invariant-loop-number l = l.met.items ++ outputs_met l.number (drop l.number l.stores) ≡ l.initial.met.items ++ outputs_met 0 l.stores
