use Rattle.std.proofs.Common.{◌≡◌, true, take}
use Rattle.qz_syntax.specs.DoubleNames.{formal_names, are_distinct}
use Rattle.qz_first.proofs.formal_numbers.FormalNumbers.new.Given as goal

abbrev pub invariant-loop-formal : goal.invariant-loop-formal
invariant-loop-formal l = record {
  keys : l.names.keys ≡ formal_names (take l.formal-index l.formals);
  apart : are_distinct l.names.keys ≡ true;
}
