use Rattle.std.proofs.Common.{◌≡◌, map, take}
use Rattle.qz_first.specs.Does.{port_of}
use Rattle.qz_first.proofs.circuit.ports.Given as goal

abbrev pub invariant-loop-formal : goal.invariant-loop-formal
invariant-loop-formal l = l.ports ≡ map port_of (take l.formal-index l.formals)
