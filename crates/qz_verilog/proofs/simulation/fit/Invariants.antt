use Rattle.std.proofs.Common.{◌≡◌, ◌↔◌, drop}
use Rattle.std.specs.List.{AllByRecursion}
use Rattle.qz_values.specs.Types.{IsType}
use Rattle.qz_verilog.specs.Validity.{port_types}
use Rattle.qz_verilog.specs.Runs.{AreOf}
use Rattle.qz_verilog.specs.Simulation.{row_of}
use Rattle.qz_verilog.proofs.simulation.fit.Given as goal

-- what is left decides
pub record Left (types : Type 0) (rest all : Type 0) : Type 0 where
  pub typed : types
  pub decides : rest ↔ all

abbrev pub invariant-loop-number : goal.invariant-loop-number
invariant-loop-number l =
    Left (AllByRecursion IsType (port_types (drop l.number l.ports)))
    (AreOf (port_types (drop l.number l.ports)) (row_of (port_types (drop l.number l.ports)) (drop l.number l.numbers)))
    (AreOf (port_types l.ports) (row_of (port_types l.ports) l.numbers))
