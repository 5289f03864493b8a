-- A run over the rows that are left makes one over all.
use Rattle.std.proofs.Common.{◌≡◌, ◌*◌, ◌-◌, length}
use Rattle.std.specs.List.{AllByRecursion}
use Rattle.qz_verilog.specs.Validity.{port_types}
use Rattle.qz_trace.specs.Rows.{IsRow, rows_of, rows_in}
use Rattle.qz_driver.proofs.ClockLemmas.{Ran}
use Rattle.qz_driver.proofs.clocks.outputs.Given as goal

abbrev pub invariant-loop : goal.invariant-loop
invariant-loop l = record {
  left : length l.rest ≡ l.rows.width * (l.rows.steps - l.counter);
  held : length l.values.items ≡ l.width * l.counter;
  room : length l.row ≡ l.width;
  same : l.sim.circuit ≡ l.fn.circuit;
  each : AllByRecursion (IsRow (port_types l.fn.circuit.inputs)) (rows_of l.rows.width (l.rows.steps - l.counter) l.rest);
  ran : Ran l.fn.circuit (rows_in l.rows) (rows_of l.rows.width (l.rows.steps - l.counter) l.rest) l.sim.registers (rows_of l.width l.counter l.values.items);
}
