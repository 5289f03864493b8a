use Rattle.std.proofs.Common.{◌≡◌}
use Rattle.qz_interp.specs.Keeping.{outputs_kept}
use Rattle.qz_interp.proofs.keeping.keep_outputs.Given as goal

abbrev pub invariant-loop-number : goal.invariant-loop-number
invariant-loop-number l = l.stores.items ≡ outputs_kept l.slots l.env.now.items l.env.later.items l.number
