-- those that are taken, and those that are left
use Rattle.std.proofs.Common.{◌≡◌, ◌++◌, drop}
use Rattle.qz_run.specs.Inputs.{values_of}
use Rattle.qz_run.proofs.rows.take_numbers.Given as goal

abbrev pub invariant-loop-at : goal.invariant-loop-at
invariant-loop-at l = l.values.items ++ values_of (drop l.at l.types) (drop l.at l.numbers) ≡ values_of l.types l.numbers
