use Rattle.std.proofs.Common.{◌≡◌, drop}
use Rattle.qz_system.specs.Valuations.{hold_inputs}
use Rattle.qz_system.proofs.fitting.hold_inputs.Given as goal

abbrev pub invariant-loop-port : goal.invariant-loop-port
invariant-loop-port l = hold_inputs (drop l.port-index l.ports) l.rest ≡ hold_inputs l.ports l.inputs
