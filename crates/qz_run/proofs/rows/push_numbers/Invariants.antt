use Rattle.std.proofs.Common.{◌≡◌, ◌++◌, take, map}
use Rattle.qz_values.specs.Values.{bits_of}
use Rattle.qz_run.proofs.rows.push_numbers.Given as goal

abbrev pub invariant-loop-value : goal.invariant-loop-value
invariant-loop-value l = l.numbers.items ≡ l.initial.numbers.items ++ map bits_of (take l.value-index l.values)
