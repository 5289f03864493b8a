use Rattle.std.proofs.Common.{length}
use Rattle.qz_react.proofs.bindings.+bind.Given as goal

abbrev pub decreases-bind : goal.decreases-bind
decreases-bind l = length l.bindings.now
