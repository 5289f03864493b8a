use Rattle.std.proofs.Common.{◌≡◌, ◌+◌, ◌≤◌, min, drop}
use Rattle.std.specs.List.{sum_by}
use Rattle.qz_syntax.specs.Sizes.{argument_nodes, largest_size}
use Rattle.qz_syntax.proofs.sizes.argument_nodes.Given as goal

abbrev pub invariant-loop-argument : goal.invariant-loop-argument
invariant-loop-argument l = record {
  rest : min (l.nodes + sum_by argument_nodes (drop l.argument-index l.arguments)) largest_size ≡ min (sum_by argument_nodes l.arguments) largest_size;
  fits : l.nodes ≤ largest_size;
}
