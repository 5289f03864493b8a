-- The run is on its way, with the machine where it has come to.
use Rattle.std.proofs.Common.{◌≡◌, length}
use Rattle.qz_meaning.specs.Programs.{program_of}
use Rattle.qz_interp.specs.Machines.{configuration_of}
use Rattle.qz_run.proofs.GoingLemmas.{Going}
use Rattle.qz_run.proofs.runs.run_rows.Given as goal

abbrev pub invariant-loop-step : goal.invariant-loop-step
invariant-loop-step l = record {
  room : length l.given ≡ l.width;
  same : l.machine.whole ≡ l.fn.machine.whole;
  going : Going (program_of l.fn.machine.whole.module) l.types l.inputs l.width l.step l.rest l.values.items (configuration_of l.machine);
}
