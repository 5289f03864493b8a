use Rattle.std.proofs.Common.{◌≡◌, ◌+◌, ◌≤◌, drop}
use Rattle.qz_system.specs.Parts.{count_of}
use Rattle.qz_system.proofs.ordered.count_of.Given as goal

abbrev pub invariant-loop-one : goal.invariant-loop-one
invariant-loop-one l = record {
  few : l.count ≤ l.one-index;
  rest : l.count + count_of l.cell (drop l.one-index l.instances) ≡ count_of l.cell l.instances;
}
