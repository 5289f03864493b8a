use Rattle.std.proofs.Common.{length}
use Rattle.qz_react.proofs.bindings.+unbind.Given as goal

abbrev pub decreases-unbind : goal.decreases-unbind
decreases-unbind l = length l.bindings.now
