use Rattle.std.proofs.Common.{◌≡◌, ◌++◌, length}
use Rattle.qz_syntax.specs.DoubleNames.{are_distinct}
use Rattle.qz_system.specs.Parts.{port_names}
use Rattle.qz_system.proofs.declared.each_differs.Given as goal

abbrev pub invariant-loop-port : goal.invariant-loop-port
invariant-loop-port l =
    are_distinct (port_names (l.rest ++ l.others)) ≡ are_distinct (port_names (l.ports ++ l.others))

abbrev pub decreases-loop-port : goal.decreases-loop-port
decreases-loop-port l = length l.rest
