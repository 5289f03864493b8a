use Rattle.std.proofs.Common.{◌≡◌, ◌+◌, ◌≤◌, min, drop}
use Rattle.std.specs.List.{sum_by}
use Rattle.qz_syntax.specs.Sizes.{binding_nodes, largest_size}
use Rattle.qz_syntax.proofs.sizes.binding_nodes.Given as goal

abbrev pub invariant-loop-binding : goal.invariant-loop-binding
invariant-loop-binding l = record {
  rest : min (l.nodes + sum_by binding_nodes (drop l.binding-index l.bindings)) largest_size ≡ min (sum_by binding_nodes l.bindings) largest_size;
  fits : l.nodes ≤ largest_size;
}
