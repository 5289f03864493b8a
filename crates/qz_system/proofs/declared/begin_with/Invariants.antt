use Rattle.std.proofs.Common.{◌≡◌, drop}
use Rattle.qz_system.specs.Parts.{begin_with}
use Rattle.qz_system.proofs.declared.begin_with.Given as goal

abbrev pub invariant-loop-port : goal.invariant-loop-port
invariant-loop-port l = begin_with (drop l.port-index l.ports) l.rest ≡ begin_with l.ports l.cells
