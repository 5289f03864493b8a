use Rattle.std.proofs.Common.{◌≡◌, take}
use Rattle.qz_verilog.specs.Validity.{port_types}
use Rattle.qz_driver.proofs.simulate.types_of.Given as goal

abbrev pub invariant-loop-port : goal.invariant-loop-port
invariant-loop-port l = l.types.items ≡ port_types (take l.port-index l.ports)
